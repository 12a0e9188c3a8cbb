use Rattle.std.proofs.Common.{below_more}
use Rattle.log_ends.specs.Glue.{IsNotUnlike}
use Rattle.log_ends.proofs.joining.has_unlike.Goals as goal

pub loop-other-preserved : goal.loop-other-preserved
loop-other-preserved c = below_more (λ k. IsNotUnlike c.args.rows.now c.args.place c.args.known k) c.loop-other.other c.loop-other.invariant c.if-is_unlike.ensures
