-- Runs of logs, by whatever order.
use Rattle.std.specs.Prelude.{ℕ, List}
use Rattle.vat_log.specs.Log.{Log}
use Rattle.merge_order.specs.Fits.{IsFitting}
use Rattle.run_model.specs.declared.step.Step.{Step}
use Rattle.case_book.specs.Case.{Contents}
use Rattle.audit_core.specs.Headline.{Explains}
use Rattle.audit_core.specs.Report.{IsGoodCase}

-- a run explains the logs, by some order of their records that fits
abbrev pub AreExplained : List Log → List Step → Type 0
AreExplained logs run = (order : List ℕ) × IsFitting logs order × Explains logs order run

-- not all logs and links are good, or no order fits
abbrev pub HasNoRun : Contents → Type 0
HasNoRun held = IsGoodCase held → (order : List ℕ) → IsFitting held.logs order → ⊥
