use Rattle.call_trace.proofs.Placing.{delivery_may_come, sent_call_may_come}
use Rattle.call_trace.proofs.laws.calls_go_where_they_lead.Goals as goal

pub returns-clause-delivered : goal.returns-clause-delivered
returns-clause-delivered c = delivery_may_come

pub returns-clause-sent : goal.returns-clause-sent
returns-clause-sent c = sent_call_may_come
