use Rattle.std.proofs.Common.{◌≤◌, List, length, sym, ap, ◌∙◌, subst}
use Rattle.vat_log.specs.Log.{Log}
use Rattle.vat_rules.specs.Audit.{Found}
use Rattle.merge_order.specs.Fits.{IsFitting}
use Rattle.call_trace.specs.Findings.{MayBeNamed}
use Rattle.case_book.specs.Case.{Contents}
use Rattle.audit_core.specs.Report.{HoldsOfEach, records_in}
use Rattle.audit_core.proofs.Naming.{may_be_named}
use Rattle.audit_core.proofs.Whole.{logs_are}
use Rattle.audit_core.proofs.Explaining.{few_steps, early_report, yes_report}
use Rattle.audit_core.proofs.judging.by_order.Goals as goal

pub name_run-requires : goal.name_run-requires
name_run-requires c =
    let fits = subst (λ (logs : List Log). IsFitting logs c.args.order.now) (sym (logs_are c.args.findings.now c.requires.good.whole)) c.requires.fits in
    subst (λ (vats : List Found). MayBeNamed vats c.args.order.now) (sym c.vats.ensures.lent) (may_be_named c.args.findings.now c.args.order.now c.requires.good fits)

pub order_fault-requires : goal.order_fault-requires
order_fault-requires c =
    few_steps c.args.findings.now.case.logs c.args.order.now c.in_ok-run.run' c.requires.fits c.in_ok-run.ensures.by_order
    (subst (HoldsOfEach (λ (log : Log). length log.records ≤ 4294967295)) (c.logs.ensures.lent ∙ ap (λ (held : Contents). held.logs) c.case.ensures.lent) c.count_records-records.ensures.each)

pub yes-requires-clause-all : goal.yes-requires-clause-all
yes-requires-clause-all c = c.count_records-records.ensures.count ∙ ap records_in c.logs.ensures.lent ∙ ap (λ (held : Contents). records_in held.logs) c.case.ensures.lent

pub returns-in-Some : goal.returns-in-Some
returns-in-Some c = λ given by.
    early_report c.args.findings.now c.requires.good c.vats.result.now c.vats.ensures.lent c.args.order.now c.in_ok-run.run' c.requires.fits c.in_ok-run.ensures given by
    c.in_ok-vat.field-0 c.in-Some.vat c.in-Some.at c.in_ok-vat.ensures c.in-Some.is

pub returns-in-None : goal.returns-in-None
returns-in-None c = λ given by.
    yes_report c.args.findings.now c.requires.good c.vats.result.now c.vats.ensures.lent c.args.order.now c.in_ok-run.run' c.requires.fits c.in_ok-run.ensures given by
    c.in_ok-vat.field-0 c.yes.result c.in_ok-vat.ensures c.in-None.is c.yes.ensures
