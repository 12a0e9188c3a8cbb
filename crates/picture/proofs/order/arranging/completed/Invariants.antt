use Rattle.std.proofs.Common.{◌≡◌, ◌++◌, map, drop}
use Rattle.std.specs.Arc.{arc_value}
use Rattle.std.specs.List.{flat_map}
use Rattle.picture.specs.Places.{completed, steps_left}
use Rattle.picture.proofs.order.arranging.completed.Given as goal

abbrev pub invariant-loop-log : goal.invariant-loop-log
invariant-loop-log l = l.all.items ++ flat_map (steps_left l.order) (map arc_value (drop l.log-index l.logs)) ≡ completed (map arc_value l.logs) l.order
