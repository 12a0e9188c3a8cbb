use Rattle.run_model.proofs.Somewhere.{somewhere}
use Rattle.run_model.proofs.laws.a_call_is_somewhere.Goals as goal

pub returns : goal.returns
returns c = somewhere
