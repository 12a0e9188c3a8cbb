use Rattle.turn_taking.proofs.Orders.{least_exists}
use Rattle.turn_taking.proofs.laws.least_order_exists.Goals as goal

pub returns : goal.returns
returns c = λ logs order fits. least_exists logs order fits
