use Rattle.std.proofs.Common.{None}
use Rattle.call_trace.proofs.Early.{IsFault}
use Rattle.call_trace.proofs.first_overtaking.is_any_early.Given as goal

abbrev pub invariant-loop-index : goal.invariant-loop-index
invariant-loop-index l = IsFault l.steps l.index None
