use Rattle.std.proofs.Common.{◌≡◌, List, ℕ, true, take}
use Rattle.std.specs.Borrow.{Bor}
use Rattle.std.specs.BTreeSet.{contains}
use Rattle.std.specs.Ordering.{nat_cmp}
use Rattle.std.specs.Cmp.Lexicographic.{slice_cmp}
use Rattle.vat_rules.specs.OfCalls.{distinct_paths}
use Rattle.vat_rules.proofs.Twice.{stands}
use Rattle.vat_rules.proofs.rules.result_paths.many_distinct.Given as goal

abbrev pub invariant-loop-path : goal.invariant-loop-path
invariant-loop-path l = record {
  distinct : distinct_paths (take l.path-index l.results) ≡ true;
  seen : (q : Bor (List ℕ)) → contains (λ x y. slice_cmp nat_cmp x.now y.now) l.seen q ≡ stands q.now (take l.path-index l.results);
}
