use Rattle.turn_taking.proofs.Orders.{turns_fit}
use Rattle.turn_taking.proofs.laws.turns_make_an_order.Goals as goal

pub returns : goal.returns
returns c = λ logs rising turns ordered all. turns_fit logs turns rising ordered all
