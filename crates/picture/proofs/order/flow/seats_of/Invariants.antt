use Rattle.std.proofs.Common.{◌≡◌, ◌++◌, map, drop}
use Rattle.std.specs.Arc.{arc_value}
use Rattle.picture.specs.Glue.Seats.{seat_of, seats_of}
use Rattle.picture.proofs.order.flow.seats_of.Given as goal

abbrev pub invariant-loop-log : goal.invariant-loop-log
invariant-loop-log l = l.seats.items ++ map seat_of (map arc_value (drop l.log-index l.logs)) ≡ seats_of (map arc_value l.logs)
