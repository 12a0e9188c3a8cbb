use Rattle.log_ends.specs.Glue.{sequence_number, IsSound, AreRows}
use Rattle.log_ends.proofs.passages.rows_of.Given as goal

abbrev pub invariant-loop-place : goal.invariant-loop-place
invariant-loop-place l =
    record {
      sound : IsSound l.sequences;
      are : AreRows (sequence_number l.sequences) l.logs l.place l.rows.items;
    }
