use Rattle.vat_view.proofs.Joining.{one_itself, one_back, one_through}
use Rattle.vat_view.proofs.laws.ones_are_classes.Goals as goal

pub returns-clause-itself : goal.returns-clause-itself
returns-clause-itself c = one_itself

pub returns-clause-back : goal.returns-clause-back
returns-clause-back c = one_back

pub returns-clause-through : goal.returns-clause-through
returns-clause-through c = one_through
