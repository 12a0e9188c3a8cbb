use Rattle.merge_order.proofs.Scheduling.{scheduled_none}
use Rattle.merge_order.proofs.schedule.Schedule.take.Goals as goal

pub invariant_of-self-in-Err : goal.invariant_of-self-in-Err
invariant_of-self-in-Err c = rw c.clear.ensures (scheduled_none _ _)
