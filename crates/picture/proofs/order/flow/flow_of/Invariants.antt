use Rattle.picture.proofs.Flowing.{IsFlowing}
use Rattle.picture.proofs.order.flow.flow_of.Given as goal

abbrev pub invariant-loop : goal.invariant-loop
invariant-loop l = IsFlowing l.case l.counter l.order.items l.seats.items
