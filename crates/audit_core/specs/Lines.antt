-- What is answered of a case without its run.
use Rattle.std.specs.Prelude.{◌≡◌, ℕ, ⊤, List, Option}
use Rattle.vat_log.specs.Log.{Log}
use Rattle.merge_order.specs.Fits.{IsFitting}
use Rattle.run_model.specs.declared.step.Step.{Step}
use Rattle.case_book.specs.Case.{Contents}
use Rattle.audit_core.specs.Headline.{IsHeadline}
use Rattle.audit_core.specs.Report.{IsReport, line_in}
use Rattle.case_report.specs.declared.report.Report.{Report}
use Rattle.case_report.specs.declared.report.Report.TheVariants as report

-- it is the report of the case, and of an order or none, without the run
pub record IsLineOf (held : Contents) (given : Option (List ℕ)) (answer : Report) : Type 0 where
  pub whole : Report
  pub report : IsReport held given whole
  pub line : answer ≡ line_in whole

-- there is a run with all that a yes means, by an order that fits the logs
pub record HasHeadline (logs : List Log) : Type 0 where
  pub order : List ℕ
  pub run : List Step
  pub fits : IsFitting logs order
  pub headline : IsHeadline logs order run

-- where a line says yes, there is such a run
abbrev pub LineMeansHeadline : List Log → Report → Type 0
LineMeansHeadline logs (report.Yes vats records delivered under_way run) = HasHeadline logs
LineMeansHeadline logs _ = ⊤
