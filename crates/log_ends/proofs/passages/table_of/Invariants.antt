use Rattle.std.proofs.Common.{take}
use Rattle.std.specs.List.{filter_map}
use Rattle.vat_log.specs.Passages.{frame_sent, frame_received}
use Rattle.log_ends.specs.Glue.{sequence_number, IsSound, Keeps, HasPassed}
use Rattle.log_ends.proofs.passages.table_of.Given as goal

abbrev pub invariant-loop-index : goal.invariant-loop-index
invariant-loop-index l =
    record {
      sound : IsSound l.sequences;
      keeps : Keeps l.initial.sequences l.sequences;
      has : HasPassed (sequence_number l.sequences) l.table (λ q. filter_map (frame_sent q) (take l.index l.log.records)) (λ q. filter_map (frame_received q) (take l.index l.log.records));
    }
