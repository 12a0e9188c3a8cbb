use Rattle.std.proofs.Common.{◌≡◌, drop}
use Rattle.std.specs.Prelude.{find}
use Rattle.picture.specs.Glue.Seats.{seat_receives}
use Rattle.picture.proofs.order.flow.first_receiving.Given as goal

abbrev pub invariant-loop-seat : goal.invariant-loop-seat
invariant-loop-seat l = find seat_receives l.seats ≡ find seat_receives (drop l.seat-index l.seats)
