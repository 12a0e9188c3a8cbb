use Rattle.run_model.proofs.Goals.{goes_to_goal}
use Rattle.run_model.proofs.laws.calls_come_from_their_makers.Goals as goal

pub returns : goal.returns
returns c = goes_to_goal
