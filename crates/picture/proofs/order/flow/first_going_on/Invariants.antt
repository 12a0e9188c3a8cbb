use Rattle.std.proofs.Common.{◌≡◌, drop}
use Rattle.std.specs.Prelude.{find}
use Rattle.picture.specs.Glue.Seats.{seat_goes_on}
use Rattle.picture.proofs.order.flow.first_going_on.Given as goal

abbrev pub invariant-loop-seat : goal.invariant-loop-seat
invariant-loop-seat l = find seat_goes_on l.seats ≡ find seat_goes_on (drop l.seat-index l.seats)
