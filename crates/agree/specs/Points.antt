-- Points of lists that have the newest first: a point is what is left of the list from there on.
use Rattle.std.specs.Prelude.{◌≡◌, ℕ, List, ◌∷◌, ◌++◌, length, Option, Some}
use Rattle.std.specs.List.{filter_map}

-- a list went on from a part of it: what came later stands before that part
abbrev pub GoesOn : {A : Type 0} → List A → List A → Type 0
GoesOn {A} whole part = (later : List A) × (whole ≡ later ++ part)

-- this is the n-th, from 0, of the elements that give something, with those that came before it
pub record IsNth {A B : Type 0} (f : A → Option B) (n : ℕ) (xs before : List A) (x : A) : Type 0 where
  pub there : GoesOn xs (x ∷ before)
  pub some : (y : B) × (f x ≡ Some y)
  pub number : length (filter_map f before) ≡ n

-- each element is so by those that came before it
abbrev pub AtEach : {A : Type 0} → (List A → A → Type 0) → List A → Type 0
AtEach {A} P xs = (before : List A) (x : A) → GoesOn xs (x ∷ before) → P before x
