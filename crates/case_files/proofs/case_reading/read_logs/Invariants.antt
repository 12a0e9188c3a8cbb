use Rattle.std.proofs.Common.{map, string_bytes}
use Rattle.std.specs.Arc.{arc_value}
use Rattle.case_files.proofs.CaseReadings.{Came}
use Rattle.case_files.proofs.case_reading.read_logs.Given as goal

abbrev pub invariant-loop-name : goal.invariant-loop-name
invariant-loop-name g l = Came string_bytes g.S.Source.read_gives l.initial.source l.source l.names l.name-index (map arc_value l.logs.items)
