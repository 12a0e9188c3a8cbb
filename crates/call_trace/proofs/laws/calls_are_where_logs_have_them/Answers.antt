use Rattle.call_trace.proofs.Placing.{is_there}
use Rattle.call_trace.proofs.laws.calls_are_where_logs_have_them.Goals as goal

pub returns : goal.returns
returns c = is_there
