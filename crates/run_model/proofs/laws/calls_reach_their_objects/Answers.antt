use Rattle.run_model.proofs.Reaching.{each_reaches_object}
use Rattle.run_model.proofs.laws.calls_reach_their_objects.Goals as goal

pub returns : goal.returns
returns c = each_reaches_object
