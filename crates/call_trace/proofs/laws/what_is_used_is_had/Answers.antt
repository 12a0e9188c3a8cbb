use Rattle.call_trace.proofs.Sayable.{used_had}
use Rattle.call_trace.proofs.laws.what_is_used_is_had.Goals as goal

pub returns : goal.returns
returns c = used_had
