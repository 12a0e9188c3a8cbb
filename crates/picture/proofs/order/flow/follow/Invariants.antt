use Rattle.std.proofs.Common.{◌≡◌, ◌++◌, map, take, drop}
use Rattle.picture.specs.Glue.Seats.{followed}
use Rattle.picture.proofs.order.flow.follow.Given as goal

abbrev pub invariant-loop-seat : goal.invariant-loop-seat
invariant-loop-seat l = l.seats ≡ map (followed l.turn) (take l.seat-index l.initial.seats) ++ drop l.seat-index l.initial.seats
