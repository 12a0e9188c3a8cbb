use Rattle.std.proofs.Common.{◌≡◌, fold, map, drop}
use Rattle.case_book.specs.Least.{lower}
use Rattle.case_book.specs.Ties.{links_without_log}
use Rattle.case_book.proofs.ties.least_unlogged.Given as goal

abbrev pub invariant-loop-link : goal.invariant-loop-link
invariant-loop-link g l = fold lower l.initial.found (links_without_log (map g.L.CaseLog.log l.logs) l.links) ≡ fold lower l.found (links_without_log (map g.L.CaseLog.log l.logs) (drop l.link-index l.links))
