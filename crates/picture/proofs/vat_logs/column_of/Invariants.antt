use Rattle.std.proofs.Common.{◌≡◌, ◌≤◌, ◌+◌, map, drop}
use Rattle.std.specs.Arc.{arc_value}
use Rattle.picture.specs.Places.{column_of}
use Rattle.picture.proofs.vat_logs.column_of.Given as goal

abbrev pub invariant-loop-log : goal.invariant-loop-log
invariant-loop-log l = (l.column + column_of (map arc_value (drop l.log-index l.logs)) l.vat ≡ column_of (map arc_value l.logs) l.vat) × (l.column ≤ l.log-index)
