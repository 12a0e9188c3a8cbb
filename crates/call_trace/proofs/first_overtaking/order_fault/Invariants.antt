use Rattle.run_model.proofs.Numbers.{IsNumbered}
use Rattle.call_trace.proofs.Early.{IsFault}
use Rattle.call_trace.proofs.first_overtaking.order_fault.Given as goal

abbrev pub invariant-loop-index : goal.invariant-loop-index
invariant-loop-index l = IsNumbered l.steps l.index l.numbers × IsFault l.steps l.index l.fault
