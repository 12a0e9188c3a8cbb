use Rattle.call_trace.proofs.Behind.{IsReached}
use Rattle.call_trace.proofs.overtaking.last_overtakings.Given as goal

abbrev pub invariant-loop-step : goal.invariant-loop-step
invariant-loop-step l = IsReached l.steps l.step-index l.through l.until
