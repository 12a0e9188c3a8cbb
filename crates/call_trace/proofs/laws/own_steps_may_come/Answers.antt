use Rattle.call_trace.proofs.Making.{own_may_come}
use Rattle.call_trace.proofs.laws.own_steps_may_come.Goals as goal

pub returns : goal.returns
returns c = own_may_come
