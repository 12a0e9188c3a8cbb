use Rattle.call_trace.proofs.Settling.{answer_may_come, answer_by_may_come, fault_may_come}
use Rattle.call_trace.proofs.laws.calls_are_settled_once.Goals as goal

pub returns-clause-answered : goal.returns-clause-answered
returns-clause-answered c = answer_may_come

pub returns-clause-handed_on : goal.returns-clause-handed_on
returns-clause-handed_on c = answer_by_may_come

pub returns-clause-faulted : goal.returns-clause-faulted
returns-clause-faulted c = fault_may_come
