use Rattle.std.proofs.Common.{◌≡◌}
use Rattle.std.specs.List.{filter_map, range_with_len}
use Rattle.picture.specs.Rows.{row_at}
use Rattle.picture.proofs.row.rows_of.Given as goal

abbrev pub invariant-loop-row : goal.invariant-loop-row
invariant-loop-row l = l.rows.items ≡ filter_map (row_at l.scene) (range_with_len 0 l.row)
