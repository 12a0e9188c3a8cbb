use Rattle.std.proofs.Common.{◌≡◌, drop}
use Rattle.std.specs.Prelude.{find}
use Rattle.picture.specs.Glue.Seats.{seat_goes_to_receive}
use Rattle.picture.proofs.order.flow.first_to_receive.Given as goal

abbrev pub invariant-loop-seat : goal.invariant-loop-seat
invariant-loop-seat l = find seat_goes_to_receive l.seats ≡ find seat_goes_to_receive (drop l.seat-index l.seats)
