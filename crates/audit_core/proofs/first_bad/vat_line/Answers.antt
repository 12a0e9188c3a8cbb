use Rattle.std.proofs.Common.{ℕ, Some, ap, sym, ◌∙◌}
use Rattle.vat_log.specs.Log.{Log}
use Rattle.vat_rules.specs.declared.outcome.Outcome.{Outcome}
use Rattle.case_report.specs.declared.report.Breach.TheVariants.{Rule}
use Rattle.case_report.specs.declared.report.Report.TheVariants as report
use Rattle.audit_core.specs.Report.{IsGoodFinding}
use Rattle.audit_core.specs.Glue.{line_of}
use Rattle.audit_core.proofs.Places.{holds_none, holds_all}
use Rattle.audit_core.proofs.FirstLine.{good_next, first_bad}
use Rattle.audit_core.proofs.first_bad.vat_line.Goals as goal

pub loop-found-init : goal.loop-found-init
loop-found-init c = holds_none IsGoodFinding c.args.vats.now

pub returns-in-Broken : goal.returns-in-Broken
returns-in-Broken c =
    first_bad c.args.vats.now c.loop-found.found-index c.found-item.result c.outcome.result.now (report.Vat c.vat-vat.result c.in-Broken.at (Rule c.in-Broken.rule)) c.found-item.is
    c.loop-found-test.true c.outcome.ensures.value c.outcome.ensures.of_the_log
    (ap (λ (o : Outcome). line_of c.found-item.result.log.vat o) c.in-Broken.is
    ∙ ap (λ (v : ℕ). Some (report.Vat v c.in-Broken.at (Rule c.in-Broken.rule))) (sym (c.vat-vat.ensures ∙ ap (λ (l : Log). l.vat) (c.deref.ensures ∙ c.log.ensures)))) c.loop-found.invariant

pub returns-in-Outside : goal.returns-in-Outside
returns-in-Outside c =
    first_bad c.args.vats.now c.loop-found.found-index c.found-item.result c.outcome.result.now (report.OutsideVat c.vat-vat.result c.in-Outside.at c.in-Outside.why) c.found-item.is
    c.loop-found-test.true c.outcome.ensures.value c.outcome.ensures.of_the_log
    (ap (λ (o : Outcome). line_of c.found-item.result.log.vat o) c.in-Outside.is
    ∙ ap (λ (v : ℕ). Some (report.OutsideVat v c.in-Outside.at c.in-Outside.why)) (sym (c.vat-vat.ensures ∙ ap (λ (l : Log). l.vat) (c.deref.ensures ∙ c.log.ensures)))) c.loop-found.invariant

pub loop-found-preserved : goal.loop-found-preserved
loop-found-preserved c =
    good_next c.args.vats.now c.loop-found.found-index c.found-item.result c.outcome.result.now c.in-Good.field-0 c.found-item.is c.loop-found-test.true
    c.outcome.ensures.value c.outcome.ensures.of_the_log c.in-Good.is c.loop-found.invariant

pub returns : goal.returns
returns c = holds_all IsGoodFinding c.args.vats.now c.loop-found.found-index c.loop-found.invariant c.loop-found-test.false
