use Rattle.std.proofs.Common.{◌≡◌, ◌==◌, drop}
use Rattle.std.specs.List.{position_from}
use Rattle.picture.specs.Glue.Seats.{first_on}
use Rattle.picture.proofs.order.seat.first_on.Given as goal

abbrev pub invariant-loop-at : goal.invariant-loop-at
invariant-loop-at l = first_on l.connection l.coming ≡ position_from (λ on. on == l.connection) l.at (drop l.at l.coming)
