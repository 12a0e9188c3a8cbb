use Rattle.call_trace.proofs.Sayable.{step_there}
use Rattle.call_trace.proofs.laws.what_is_named_has_a_name.Goals as goal

pub returns : goal.returns
returns c = step_there
