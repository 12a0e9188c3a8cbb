use Rattle.std.proofs.Common.{◌≡◌, List, ℕ, Option, None, sym, ap, ◌∙◌, map, subst, Global}
use Rattle.std.specs.Prelude.{IfSome}
use Rattle.std.specs.Arc.{arc_value}
use Rattle.std.proofs.lemmas.Result.{IfOk-weaker}
use Rattle.vat_log.specs.Log.{Log}
use Rattle.vat_log.specs.declared.log.VatLog.{VatLog}
use Rattle.merge_order.specs.Fits.{IsFitting, TakesLeast}
use Rattle.case_book.specs.Case.{Contents}
use Rattle.audit_core.specs.Report.{IsOrderFor, IsReport}
use Rattle.case_report.specs.declared.report.Report.{Report}
use Rattle.audit_core.proofs.FirstLine.{good_case}
use Rattle.audit_core.proofs.Meaning.{yes_means, yes_by_order}
use Rattle.audit_core.proofs.judging.judge_lent_unordered.Goals as goal

pub returns-in-None-clause-report : goal.returns-in-None-clause-report
returns-in-None-clause-report c =
    let same = c.logs.ensures.lent ∙ ap (λ (held : Contents). held.logs) c.case.ensures.lent in
    (good_case c.args.findings.now c.in_default.ensures, λ order fits. c.in_ok-make_order.ensures.none c.in-None.is order (subst (λ (held : List Log). IsFitting held order) (sym same) fits))

pub returns-in-Some-2-clause-report : goal.returns-in-Some-2-clause-report
returns-in-Some-2-clause-report c =
    let logs = map (arc_value {X = VatLog} {Z = Global}) c.logs.result.now in
    let same : logs ≡ c.args.findings.now.case.logs = c.logs.ensures.lent ∙ ap (λ (held : Contents). held.logs) c.case.ensures.lent in
    let least : TakesLeast logs c.in-Some-2.order = subst (λ made. IfSome made (λ order. TakesLeast logs order)) c.in-Some-2.is c.in_ok-make_order.ensures.least in
    IfOk-weaker c.by_order.result (λ (answer : Report). (given : Option (List ℕ)) → IsOrderFor c.args.findings.now.case.logs given c.in-Some-2.order → IsReport c.args.findings.now.case given answer)
    (IsReport c.args.findings.now.case None) (λ answer so. so None (subst (λ (held : List Log). TakesLeast held c.in-Some-2.order) same least)) c.by_order.ensures

pub returns-in-Some-clause-headline : goal.returns-in-Some-clause-headline
returns-in-Some-clause-headline c = yes_means c.args.findings.now.case None c.in-Some.line (c.in-Some.ensures None)

pub returns-in-Some-2-clause-headline : goal.returns-in-Some-2-clause-headline
returns-in-Some-2-clause-headline c = yes_by_order c.args.findings.now.case c.in-Some-2.order c.by_order.result c.by_order.ensures
