use Rattle.run_model.proofs.Once.{foreign_was_brought}
use Rattle.run_model.proofs.laws.what_is_foreign_was_brought.Goals as goal

pub returns : goal.returns
returns c = foreign_was_brought
