use Rattle.std.proofs.Common.{List, None, sym, ap, ◌∙◌}
use Rattle.vat_log.specs.Log.{Log}
use Rattle.merge_order.specs.Fits.{finding_of_order}
use Rattle.case_book.specs.Case.{Contents}
use Rattle.audit_core.proofs.FirstLine.{good_case}
use Rattle.audit_core.proofs.Meaning.{yes_means, yes_by_order}
use Rattle.audit_core.proofs.judging.judge_lent.Goals as goal

pub returns-in-Fails-clause-report : goal.returns-in-Fails-clause-report
returns-in-Fails-clause-report c =
    let same = c.logs.ensures.lent ∙ ap (λ (held : Contents). held.logs) c.case.ensures.lent in
    (good_case c.args.findings.now c.in_default.ensures, ap (λ (held : List Log). finding_of_order held c.args.order.now) (sym same) ∙ sym c.in_ok-step.ensures.exact ∙ c.in-Fails.is)

pub returns-in-Some-clause-headline : goal.returns-in-Some-clause-headline
returns-in-Some-clause-headline c = yes_means c.args.findings.now.case None c.in-Some.line (c.in-Some.ensures None)

pub returns-in-Fits-clause-headline : goal.returns-in-Fits-clause-headline
returns-in-Fits-clause-headline c = yes_by_order c.args.findings.now.case c.args.order.now c.by_order.result c.by_order.ensures
