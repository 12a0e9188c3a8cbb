use Rattle.turn_taking.proofs.Orders.{order_of_all, order_held, order_ends}
use Rattle.turn_taking.proofs.laws.turns_begin_an_order.Goals as goal

pub returns-clause-all : goal.returns-clause-all
returns-clause-all c = λ logs rising turns ordered all. order_of_all logs turns rising ordered all

pub returns-clause-held : goal.returns-clause-held
returns-clause-held c = λ logs rising turns ordered are vat held rest. order_held logs turns vat rest rising ordered are held

pub returns-clause-ends : goal.returns-clause-ends
returns-clause-ends c = λ logs rising turns ordered are some. order_ends logs turns rising ordered are some
