use Rattle.std.proofs.Common.{◌≡◌, fold, map, drop}
use Rattle.std.specs.List.{flat_map}
use Rattle.case_book.specs.Least.{lower, least}
use Rattle.case_book.specs.Ties.{unlinked_in}
use Rattle.case_book.proofs.ties.least_unlinked.Given as goal

abbrev pub invariant-loop-log : goal.invariant-loop-log
invariant-loop-log g l = least (flat_map (unlinked_in l.links) (map g.L.CaseLog.log l.logs)) ≡ fold lower l.found (flat_map (unlinked_in l.links) (map g.L.CaseLog.log (drop l.log-index l.logs)))
