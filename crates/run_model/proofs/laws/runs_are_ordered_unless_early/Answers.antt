use Rattle.run_model.proofs.Order.{ordered_unless_early}
use Rattle.run_model.proofs.laws.runs_are_ordered_unless_early.Goals as goal

pub returns : goal.returns
returns c = ordered_unless_early
