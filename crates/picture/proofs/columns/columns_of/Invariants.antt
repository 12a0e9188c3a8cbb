use Rattle.std.proofs.Common.{◌≡◌, ◌++◌, map, drop}
use Rattle.std.specs.Arc.{arc_value}
use Rattle.picture.specs.Rows.{column_at, columns_of}
use Rattle.picture.proofs.columns.columns_of.Given as goal

abbrev pub invariant-loop-log : goal.invariant-loop-log
invariant-loop-log l = l.columns.items ++ map (column_at (map arc_value l.logs) l.line) (map arc_value (drop l.log-index l.logs)) ≡ columns_of (map arc_value l.logs) l.line
