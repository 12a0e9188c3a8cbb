use Rattle.call_trace.proofs.Tells.{turn_told}
use Rattle.call_trace.proofs.laws.turns_are_told.Goals as goal

pub returns : goal.returns
returns c = turn_told
