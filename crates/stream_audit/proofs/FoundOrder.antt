-- The line of a case whose logs and links are good, by an order, from its order fault.
use Rattle.std.proofs.Common.{◌≡◌, ℕ, ◌-◌, ◌≤◌, List, [], length, reverse, Option, Some, None, refl, sym, ap, ◌∙◌, subst}
use Rattle.vat_log.specs.Log.{Log}
use Rattle.vat_log.specs.Passages.{sends, receives}
use Rattle.case_book.specs.Books.{AllFound}
use Rattle.case_book.specs.Case.{Contents}
use Rattle.audit_core.specs.Glue.{case_record_limit}
use Rattle.audit_core.specs.Lines.{IsLineOf}
use Rattle.audit_core.specs.Report.{IsGoodCase, AreGoodFindings, count_all, records_delivery, records_in}
use Rattle.case_report.specs.declared.report.Breach.TheVariants.{Order}
use Rattle.case_report.specs.declared.report.Report.TheVariants as report
use Rattle.call_order.specs.Fault.{IsFaultBy}
use Rattle.call_trace.specs.Findings.{AreTrue, MayBeNamed}
use Rattle.call_trace.specs.Named.{IsRunOf}
use Rattle.call_trace.proofs.Good.{good_run}
use Rattle.merge_order.specs.Fits.{IsFitting, finding_of_order}
use Rattle.merge_order.specs.declared.order_check.OrderFinding.{OrderFinding}
use Rattle.merge_order.specs.declared.order_check.OrderFinding.TheVariants.{Fails}
use Rattle.run_model.specs.Early.{IsOrderFault}
use Rattle.run_model.specs.declared.step.Step.{Step}
use Rattle.audit_core.specs.Report.{IsOrderFor}
use Rattle.audit_core.proofs.Explaining.{early_report, yes_report, same_yes}
use Rattle.audit_core.proofs.FirstLine.{good_case}
use Rattle.stream_audit.proofs.FoundWhole.{IsCounted}
use Rattle.audit_core.proofs.Naming.{may_be_named}
use Rattle.audit_core.proofs.Whole.{logs_are}

-- ---- by an order that fits

module _ (all : AllFound) (good : AreGoodFindings all) (true : AreTrue all.vats) (order : List ℕ) (fits : IsFitting all.case.logs order) (fault : Option (ℕ × ℕ))
    (by_fault : IsFaultBy all.case.logs order fault) (given : Option (List ℕ)) (by : IsOrderFor all.case.logs given order) where
  named : MayBeNamed all.vats order
  named = may_be_named all order good (subst (λ (logs : List Log). IsFitting logs order) (sym (logs_are all good.whole)) fits)

  has_run : (run : List Step) × IsRunOf all.vats order run
  has_run = let found = good_run all.vats order true named in (reverse found.0, found.2)

  run_fault : IsOrderFault has_run.0 fault
  run_fault = by_fault all.vats has_run.0 (logs_are all good.whole) true named has_run.1

  early_line_in : (vat at : ℕ) → fault ≡ Some (vat, at) → IsLineOf all.case given (report.Vat vat at Order)
  early_line_in vat at is = record {
    whole = report.Vat vat at Order;
    report = early_report all good all.vats refl order has_run.0 fits has_run.1 given by fault vat at run_fault is;
    line = refl;
  }

  yes_line_in : (vats records delivered under_way : ℕ) → fault ≡ None → vats ≡ length all.case.logs → records ≡ records_in all.case.logs → delivered ≡ count_all records_delivery all.case.logs
      → under_way ≡ count_all sends all.case.logs - count_all receives all.case.logs → IsLineOf all.case given (report.Yes vats records delivered under_way [])
  yes_line_in vats records delivered under_way none vats_are records_are delivered_are under_way_are =
      let whole = report.Yes (length all.case.logs) (records_in all.case.logs) (count_all records_delivery all.case.logs) (count_all sends all.case.logs - count_all receives all.case.logs) has_run.0 in
      record {
        whole = whole;
        report = yes_report all good all.vats refl order has_run.0 fits has_run.1 given by fault whole run_fault none refl;
        line = same_yes vats_are records_are delivered_are under_way_are [];
      }

module _ (held : Contents) (delivered under_way : ℕ) (counted : IsCounted held delivered under_way) (order : List ℕ) (fits : IsFitting held.logs order) (fault : Option (ℕ × ℕ))
    (by_fault : IsFaultBy held.logs order fault) (given : Option (List ℕ)) (by : IsOrderFor held.logs given order) where
  back : (P : Contents → Type 0) → P held → P counted.all.case
  back P so = subst P (sym counted.own) so

  pub early_line_of : (vat at : ℕ) → fault ≡ Some (vat, at) → IsLineOf held given (report.Vat vat at Order)
  early_line_of vat at is =
      subst (λ (h : Contents). IsLineOf h given (report.Vat vat at Order)) counted.own
      (early_line_in counted.all counted.good counted.true order (back (λ (h : Contents). IsFitting h.logs order) fits) fault
      (back (λ (h : Contents). IsFaultBy h.logs order fault) by_fault) given (back (λ (h : Contents). IsOrderFor h.logs given order) by) vat at is)

  pub yes_line_of : (vats records : ℕ) → fault ≡ None → vats ≡ length held.logs → records ≡ records_in held.logs → records ≤ case_record_limit
      → IsLineOf held given (report.Yes vats records delivered under_way [])
  yes_line_of vats records none vats_are records_are few =
      let most = subst (λ (n : ℕ). n ≤ case_record_limit) records_are few in
      subst (λ (h : Contents). IsLineOf h given (report.Yes vats records delivered under_way [])) counted.own
      (yes_line_in counted.all counted.good counted.true order (back (λ (h : Contents). IsFitting h.logs order) fits) fault
      (back (λ (h : Contents). IsFaultBy h.logs order fault) by_fault) given (back (λ (h : Contents). IsOrderFor h.logs given order) by) vats records delivered under_way none
      (back (λ (h : Contents). vats ≡ length h.logs) vats_are) (back (λ (h : Contents). records ≡ records_in h.logs) records_are)
      (back (λ (h : Contents). delivered ≡ count_all records_delivery h.logs) (counted.delivered_are most))
      (back (λ (h : Contents). under_way ≡ count_all sends h.logs - count_all receives h.logs) (counted.under_way_are most)))

pub good_counted : (held : Contents) (delivered under_way : ℕ) → IsCounted held delivered under_way → IsGoodCase held
good_counted held delivered under_way counted = subst IsGoodCase counted.own (good_case counted.all counted.good)

pub order_fails : (held : Contents) (delivered under_way : ℕ) → IsCounted held delivered under_way → (order : List ℕ) (step : ℕ) (logs : List Log) (found : OrderFinding)
    → found ≡ finding_of_order logs order → found ≡ Fails step → logs ≡ held.logs → IsLineOf held (Some order) (report.OrderStep step)
order_fails held delivered under_way counted order step logs found exact fails same = record {
  whole = report.OrderStep step;
  report = (good_counted held delivered under_way counted, ap (λ (ls : List Log). finding_of_order ls order) (sym same) ∙ sym exact ∙ fails);
  line = refl;
}

pub no_order : (held : Contents) (delivered under_way : ℕ) → IsCounted held delivered under_way → (logs : List Log) → ((order : List ℕ) → IsFitting logs order → ⊥) → logs ≡ held.logs
    → IsLineOf held None report.NoOrder
no_order held delivered under_way counted logs none same = record {
  whole = report.NoOrder;
  report = (good_counted held delivered under_way counted, λ order fits. none order (subst (λ (ls : List Log). IsFitting ls order) (sym same) fits));
  line = refl;
}
