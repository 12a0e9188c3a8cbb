use Rattle.call_trace.proofs.Carried.{one_name}
use Rattle.call_trace.proofs.laws.numbers_have_one_name.Goals as goal

pub returns : goal.returns
returns c = one_name
