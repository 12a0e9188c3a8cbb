use Rattle.std.proofs.Common.{◌≡◌, ◌++◌, map, drop}
use Rattle.std.specs.Arc.{arc_value}
use Rattle.case_book.proofs.case.copied_logs.Given as goal

abbrev pub invariant-loop-log : goal.invariant-loop-log
invariant-loop-log l = map arc_value l.copies.items ++ map arc_value (drop l.log-index l.logs) ≡ map arc_value l.logs
