use Rattle.call_trace.proofs.Behind.{IsDelivered}
use Rattle.call_trace.proofs.overtaking.deliveries.Given as goal

abbrev pub invariant-loop-index : goal.invariant-loop-index
invariant-loop-index l = IsDelivered l.steps l.index l.latest
