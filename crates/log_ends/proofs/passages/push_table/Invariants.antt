use Rattle.std.proofs.Common.{◌≡◌, ◌++◌, length, map}
use Rattle.log_ends.specs.Glue.{end_of_passage}
use Rattle.log_ends.proofs.passages.push_table.Given as goal

abbrev pub invariant-loop-connection : goal.invariant-loop-connection
invariant-loop-connection l = l.rows.items ++ map (end_of_passage l.place) l.table.entries ≡ l.initial.rows.items ++ map (end_of_passage l.place) l.initial.table.entries

abbrev pub decreases-loop-connection : goal.decreases-loop-connection
decreases-loop-connection l = length l.table.entries
