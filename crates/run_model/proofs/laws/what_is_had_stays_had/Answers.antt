use Rattle.run_model.proofs.Growing.{has_grows}
use Rattle.run_model.proofs.laws.what_is_had_stays_had.Goals as goal

pub returns : goal.returns
returns c = has_grows
