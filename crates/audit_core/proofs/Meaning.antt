-- A report that says yes has a run with all that a yes means.
use Rattle.std.proofs.Common.{ℕ, List, Option, Some, refl}
use Rattle.std.specs.Prelude.{Result, IfOk}
use Rattle.std.proofs.lemmas.Result.{IfOk-weaker}
use Rattle.case_book.specs.Case.{Contents}
use Rattle.audit_core.specs.Headline.{YesMeansHeadline}
use Rattle.audit_core.specs.Report.{IsOrderFor, IsReport}
use Rattle.case_report.specs.declared.report.Breach.TheVariants.{Rule, Order}
use Rattle.case_report.specs.declared.report.Report.{Report}
use Rattle.case_report.specs.declared.report.Report.TheVariants as report

pub yes_means : (held : Contents) (given : Option (List ℕ)) (answer : Report) → IsReport held given answer → YesMeansHeadline held.logs answer
yes_means held given (report.Vat vat at (Rule rule)) is = tt
yes_means held given (report.Vat vat at Order) is = tt
yes_means held given (report.OutsideVat vat at why) is = tt
yes_means held given (report.Link connection end message) is = tt
yes_means held given (report.OrderStep step) is = tt
yes_means held given report.NoOrder is = tt
yes_means held given (report.Yes vats records delivered under_way run) is = (is.1.order, is.1.fits, is.1.headline)

-- so of an answer that is a report by an order, however that was come by
pub yes_by_order : {E : Type 0} (held : Contents) (order : List ℕ) (answer : Result Report E)
    → IfOk answer (λ said. (given : Option (List ℕ)) → IsOrderFor held.logs given order → IsReport held given said) → IfOk answer (YesMeansHeadline held.logs)
yes_by_order held order answer so =
    IfOk-weaker answer (λ (said : Report). (given : Option (List ℕ)) → IsOrderFor held.logs given order → IsReport held given said) (YesMeansHeadline held.logs)
    (λ said is. yes_means held (Some order) said (is (Some order) refl)) so
