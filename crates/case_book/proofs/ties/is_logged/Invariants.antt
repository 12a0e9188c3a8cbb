use Rattle.std.proofs.Common.{◌≡◌, map, drop}
use Rattle.case_book.specs.Ties.{has_log}
use Rattle.case_book.proofs.ties.is_logged.Given as goal

abbrev pub invariant-loop-log : goal.invariant-loop-log
invariant-loop-log g l = has_log (map g.L.CaseLog.log l.logs) l.vat ≡ has_log (map g.L.CaseLog.log (drop l.log-index l.logs)) l.vat
