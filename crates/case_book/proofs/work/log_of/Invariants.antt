use Rattle.std.proofs.Common.{◌≡◌, map, drop}
use Rattle.std.specs.Arc.{arc_value}
use Rattle.case_book.specs.Ties.{has_log}
use Rattle.case_book.proofs.work.log_of.Given as goal

abbrev pub invariant-loop-log : goal.invariant-loop-log
invariant-loop-log l = has_log (map arc_value l.logs) l.vat ≡ has_log (map arc_value (drop l.log-index l.logs)) l.vat
