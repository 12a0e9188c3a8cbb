use Rattle.std.proofs.Common.{◌≢◌, ℕ, ◌<◌, get_or, map}
use Rattle.std.specs.Arc.{arc_value}
use Rattle.case_book.proofs.places.place_of.Given as goal

abbrev pub invariant-loop-index : goal.invariant-loop-index
invariant-loop-index l = (k : ℕ) → k < l.index → get_or (map arc_value l.logs) k l.log ≢ l.log
