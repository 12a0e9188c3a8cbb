-- Lists that rise by a number.
use Rattle.std.proofs.Common.{ℕ, suc, ◌<◌, List, ◌∷◌, length, get_or, arith}
use Rattle.std.specs.Prelude.{map}
use Rattle.std.specs.List.Sorted.{IsStrictlyIncreasing}
use Rattle.std.proofs.lemmas.List.{get_or-map, length-map}
use Rattle.std.proofs.lemmas.Map.Keys.{sorted_from_strictly_increasing, below_from_sorted}

-- what stands behind the first is above it
pub above_first : {X : Type 0} (number : X → ℕ) (x : X) (xs : List X) (i : ℕ) (d : X) → IsStrictlyIncreasing (map number (x ∷ xs)) → i < length xs → number x < number (get_or xs i d)
above_first number x xs i d rising lt =
    let fits : suc i < length (map number (x ∷ xs)) = omega (arith, length-map xs number) in
    let less = below_from_sorted (map number (x ∷ xs)) 0 (suc i) 0 (sorted_from_strictly_increasing (map number (x ∷ xs)) rising) (omega arith) fits in
    omega (arith, less, get_or-map number xs i d 0 lt)
