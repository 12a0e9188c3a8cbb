-- A case that has a report by each order, whichever is given, isn't good, or no order fits.
use Rattle.std.proofs.Common.{◌≡◌, ℕ, ◌+◌, List, length, Option, Some, None, subst, arith}
use Rattle.std.specs.Prelude.{replicate}
use Rattle.std.proofs.lemmas.List.{length-replicate}
use Rattle.vat_log.specs.Log.{Log}
use Rattle.vat_rules.specs.declared.outcome.Outcome.TheVariants.{Broken, Outside}
use Rattle.merge_order.specs.Fits.{IsFitting, begin}
use Rattle.case_book.specs.Case.{Contents, IsCase}
use Rattle.audit_core.specs.Explained.{HasNoRun}
use Rattle.audit_core.specs.Report.{IsReport, records_in}
use Rattle.case_report.specs.declared.report.Breach.TheVariants.{Rule, Order}
use Rattle.case_report.specs.declared.report.Report.{Report}
use Rattle.case_report.specs.declared.report.Report.TheVariants as report
use Rattle.audit_core.proofs.Explaining.{left_at_first, no_longer}
use Rattle.audit_core.proofs.OneLine.{broken_is_bad, no_bad_link, no_bad_log, outside_is_bad}

-- more steps than there are records
abbrev too_many : List Log → List ℕ
too_many logs = replicate (records_in logs + 1) 0

never_fits : (logs : List Log) (order : List ℕ) → order ≡ too_many logs → IsFitting logs order → ⊥
never_fits logs order is fits =
    let all = no_longer (begin logs) (too_many logs) (subst (IsFitting logs) is fits) in
    let first = left_at_first logs in
    let long : length (too_many logs) ≡ records_in logs + 1 = length-replicate {A = ℕ} (records_in logs + 1) 0 in
    absurd (omega (arith, all, first, long))

pub no_run : (held : Contents) → IsCase held → (answer : Report) → ((given : Option (List ℕ)) → IsReport held given answer) → HasNoRun held
no_run held case (report.Vat vat at (Rule rule)) is good order fits = no_bad_log held vat (Broken at rule) (is None) (broken_is_bad at rule) good.logs_good
no_run held case (report.OutsideVat vat at why) is good order fits = no_bad_log held vat (Outside at why) (is None) (outside_is_bad at why) good.logs_good
no_run held case (report.Link connection end message) is good order fits =
    no_bad_link held case connection end message (is None).1 (good.links_good (is None).1.link (is None).1.there)
no_run held case (report.OrderStep step) is good order fits = (is None).1
no_run held case report.NoOrder is good order fits = (is None).1 order fits
no_run held case (report.Vat vat at Order) is good order fits = let early = (is (Some (too_many held.logs))).1 in never_fits held.logs early.order early.by early.fits
no_run held case (report.Yes vats records delivered under_way run) is good order fits =
    let yes = (is (Some (too_many held.logs))).1 in never_fits held.logs yes.order yes.by yes.fits
