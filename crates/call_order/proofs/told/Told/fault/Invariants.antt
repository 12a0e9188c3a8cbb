use Rattle.call_order.proofs.Least.{IsLeastSoFar}
use Rattle.call_order.proofs.told.Told.fault.Given as goal

-- the least place of the vats so far
abbrev pub invariant-loop-calls : goal.invariant-loop-calls
invariant-loop-calls l = IsLeastSoFar l.self l.least l.calls-iterator
