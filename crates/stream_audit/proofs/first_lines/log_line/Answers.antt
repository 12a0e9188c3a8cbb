use Rattle.std.proofs.Common.{◌≡◌, Some, sym, subst, ◌∙◌}
use Rattle.std.specs.Prelude.{slice_get}
use Rattle.cap_reader.specs.Defaults.{default_limits}
use Rattle.vat_rules.specs.Audit.{Found}
use Rattle.audit_core.specs.Glue.{IsBadFinding, delivered_by}
use Rattle.audit_core.specs.Report.{IsGoodFinding}
use Rattle.audit_core.proofs.Places.{at_index, holds_all, holds_more}
use Rattle.stream_audit.proofs.Firsts.{first_of_all, told_before, told_more}
use Rattle.stream_audit.proofs.first_lines.log_line.Goals as goal
use Rattle.stream_audit.proofs.first_lines.log_line.Goals.{then-is_none, else-is_none+in-Err+in-Yes-1, else-is_none+in-Err+in-Vat-1, else-is_none+in-Ok-1}

pub loop-log-preserved : goal.loop-log-preserved
loop-log-preserved c =
    let logs = c.args.logs.now in
    let n = c.loop-log.log-index in
    let x = c.finding.result.now in
    let at = subst (λ (f : Found). slice_get logs n ≡ Some f) (sym c.finding.ensures.found) (at_index logs n c.log-item.result c.log-item.is c.loop-log-test.true) in (
      holds_more (λ (f : Found). f.limits ≡ default_limits) logs n x at c.finding.ensures.within c.loop-log.invariant.0,
      elim c.if-is_none.branch [
        | then-is_none w ↦ told_more IsGoodFinding IsBadFinding logs n x at (λ d. d ≡ delivered_by x) c.loop-log.line c.if-is_none.line c.count_in_log-found.result c.count_in_log-found.ensures w.if-is_none.ensures (w.line-is ∙ w.err-line.ensures.value) c.loop-log.invariant.1
        | else-is_none+in-Err+in-Yes-1 w ↦ told_before IsGoodFinding IsBadFinding logs n x at c.loop-log.line c.if-is_none.line w.if-is_none.ensures w.line-is c.loop-log.invariant.1
        | else-is_none+in-Err+in-Vat-1 w ↦ told_before IsGoodFinding IsBadFinding logs n x at c.loop-log.line c.if-is_none.line w.if-is_none.ensures w.line-is c.loop-log.invariant.1
        | else-is_none+in-Ok-1 w ↦ told_before IsGoodFinding IsBadFinding logs n x at c.loop-log.line c.if-is_none.line w.if-is_none.ensures w.line-is c.loop-log.invariant.1
      ],
    )

pub returns-clause-within : goal.returns-clause-within
returns-clause-within c = holds_all (λ (f : Found). f.limits ≡ default_limits) c.args.logs.now c.loop-log.log-index c.loop-log.invariant.0 c.loop-log-test.false

pub returns-clause-line : goal.returns-clause-line
returns-clause-line c =
    let logs = c.args.logs.now in
    let n = c.loop-log.log-index in
    first_of_all IsGoodFinding IsBadFinding logs n c.loop-log.line (λ before. holds_all IsGoodFinding logs n before c.loop-log-test.false) c.loop-log.invariant.1
