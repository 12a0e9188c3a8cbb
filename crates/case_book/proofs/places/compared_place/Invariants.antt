use Rattle.std.proofs.Common.{ℕ, ◌<◌, map}
use Rattle.std.specs.Prelude.{slice_get, IsSomeAnd}
use Rattle.std.specs.Arc.{arc_value}
use Rattle.case_book.specs.Pieces.{IsComparisonOf}
use Rattle.case_book.proofs.places.compared_place.Given as goal

abbrev pub invariant-loop-index : goal.invariant-loop-index
invariant-loop-index l = (k : ℕ) → k < l.index → ¬ IsSomeAnd (slice_get l.links k) (λ link. IsComparisonOf (map arc_value l.logs) link l.found)
