-- Lists of what is open.
use Rattle.std.proofs.Common.{◌≡◌, inl, inr, refl, zero, suc, List, [], ◌∷◌, ◌++◌, get_or, Option, Some, None, arith}
use Rattle.std.specs.Prelude.{Contains, option_to_list, ⊤}
use Rattle.std.specs.List.{AllPairs}
use Rattle.std.proofs.lemmas.List.Elements.{Contains-append_cases, Contains-append_right, Contains-get_or}
use Rattle.std.proofs.lemmas.List.Kept.{AllPairs-cons}
use Rattle.left_open.specs.Types.{Open}
use Rattle.left_open.specs.Left.{OpensBefore}
use Rattle.left_open.proofs.Points.{none_some}

pub nothing_in : {A : Type 0} (x : A) → Contains [] x → ⊥
nothing_in x there = let less = there.1 in omega (arith, less)

pub single_in : {A : Type 0} (o : Option A) (x : A) → Contains (option_to_list o) x → o ≡ Some x
single_in (Some y) x (zero, less, same) = let same : y ≡ x = same in cc
single_in (Some y) x (suc k, less, same) = absurd (let no : ⊥ = omega (arith, less) in no)
single_in None x there = absurd (nothing_in x there)

pub in_single : {A : Type 0} (o : Option A) (x : A) → o ≡ Some x → Contains (option_to_list o) x
in_single (Some y) x same = (0, omega arith, (let e : y ≡ x = cc in e))
in_single None x same = absurd (none_some same)

-- ---- in order

-- each comes before all later ones
abbrev pub Rises : List Open → Type 0
Rises [] = ⊤
Rises (x ∷ xs) = ((y : Open) → Contains xs y → OpensBefore x y) × Rises xs

pub rises_both : (xs ys : List Open) → Rises xs → Rises ys → ((x : Open) → Contains xs x → (y : Open) → Contains ys y → OpensBefore x y) → Rises (xs ++ ys)
rises_both [] ys p q cross = q
rises_both (x ∷ xs) ys p q cross = (
  λ y c. elim (Contains-append_cases xs ys y c) [
    | inl h ↦ p.0 y h
    | inr h ↦ cross x (0, omega arith, refl) y h
  ],
  rises_both xs ys p.1 q (λ z c y h. cross z (Contains-append_right (x ∷ []) xs z c) y h),
)

pub rises_single : (o : Option Open) → Rises (option_to_list o)
rises_single (Some x) = (λ y c. absurd (nothing_in y c), tt)
rises_single None = tt

pub in_pairs : (xs : List Open) → Rises xs → AllPairs OpensBefore xs
in_pairs [] h = λ i j d less below. absurd (let no : ⊥ = omega (arith, below) in no)
in_pairs (x ∷ xs) h = AllPairs-cons OpensBefore x xs (λ k d less. h.0 (get_or xs k d) (Contains-get_or xs k d less)) (in_pairs xs h.1)
