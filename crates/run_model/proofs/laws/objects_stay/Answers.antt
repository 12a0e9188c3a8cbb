use Rattle.run_model.proofs.Turning.{objects_stay}
use Rattle.run_model.proofs.laws.objects_stay.Goals as goal

pub returns : goal.returns
returns c = objects_stay
