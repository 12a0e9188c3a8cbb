use Rattle.std.proofs.Common.{◌≡◌, None, map, drop}
use Rattle.case_book.specs.Case.{vats_of}
use Rattle.case_book.specs.Glue.{first_same}
use Rattle.case_book.proofs.rising.repeated_vat.Given as goal

abbrev pub invariant-loop-log : goal.invariant-loop-log
invariant-loop-log g l = first_same None (vats_of (map g.L.CaseLog.log l.logs)) ≡ first_same l.previous (vats_of (map g.L.CaseLog.log (drop l.log-index l.logs)))
