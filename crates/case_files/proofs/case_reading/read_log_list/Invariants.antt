use Rattle.case_files.proofs.CaseReadings.{Came}
use Rattle.case_files.proofs.case_reading.read_log_list.Given as goal

abbrev pub invariant-loop-name : goal.invariant-loop-name
invariant-loop-name g l = Came g.N.AsStr.text g.S.Source.read_gives l.initial.source l.source l.names l.name-index l.logs.items
