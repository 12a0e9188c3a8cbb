use Rattle.merge_order.specs.Waits.{IsQueued, ready_count}
use Rattle.merge_order.proofs.schedule.Schedule.settle.Given as goal

abbrev pub invariant-loop-vat : goal.invariant-loop-vat
invariant-loop-vat l = IsQueued l.progress l.ready l.waiting

abbrev pub decreases-loop-vat : goal.decreases-loop-vat
decreases-loop-vat l = ready_count l.ready
