use Rattle.turn_taking.proofs.Orders.{stuck_turns}
use Rattle.turn_taking.proofs.laws.stuck_turns_have_no_order.Goals as goal

pub returns : goal.returns
returns c = λ logs rising turns ordered are stuck some order fits. stuck_turns logs turns rising ordered are stuck some order fits
