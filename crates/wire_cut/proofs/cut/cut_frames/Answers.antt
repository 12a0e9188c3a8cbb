use Rattle.std.proofs.Common.{subst}
use Rattle.wire_cut.specs.Glue.{IsNextFrame}
use Rattle.wire_cut.proofs.Cutting.{begins_with_more}
use Rattle.wire_cut.proofs.cut.cut_frames.Goals as goal

pub loop-rest-preserved : goal.loop-rest-preserved
loop-rest-preserved c =
    let next = subst (λ n. IsNextFrame c.loop-rest.rest c.cut_next.new.rest n) c.in-Whole.is c.in_ok-frame.ensures in
    begins_with_more _ _ _ c.in-Whole.frame _ _ c.loop-rest.invariant next c.in_ok-push-in-Whole.ensures.items
