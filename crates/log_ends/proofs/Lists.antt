-- Places in two lists, one behind the other.
use Rattle.std.proofs.Common.{◌≡◌, ◌⊎◌, inl, inr, ◌∷◌, ◌++◌, [], ℕ, zero, suc, ◌+◌, List, Some, length, arith}
use Rattle.std.specs.Prelude.{slice_get}

pub append_cases : {X : Type 0} (xs ys : List X) (k : ℕ) (x : X) → slice_get (xs ++ ys) k ≡ Some x → (slice_get xs k ≡ Some x) ⊎ ((j : ℕ) × (k ≡ length xs + j) × (slice_get ys j ≡ Some x))
append_cases [] ys k x e = inr (k, omega arith, e)
append_cases (z ∷ zs) ys zero x e = inl e
append_cases (z ∷ zs) ys (suc k) x e = up (append_cases zs ys k x e) where
  up : (slice_get zs k ≡ Some x) ⊎ ((j : ℕ) × (k ≡ length zs + j) × (slice_get ys j ≡ Some x)) → (slice_get zs k ≡ Some x) ⊎ ((j : ℕ) × (suc k ≡ suc (length zs) + j) × (slice_get ys j ≡ Some x))
  up (inl h) = inl h
  up (inr (j, at, h)) = inr (j, omega (arith, at), h)

pub append_left : {X : Type 0} (xs ys : List X) (k : ℕ) (x : X) → slice_get xs k ≡ Some x → slice_get (xs ++ ys) k ≡ Some x
append_left [] ys k x e = absurd cc
append_left (z ∷ zs) ys zero x e = e
append_left (z ∷ zs) ys (suc k) x e = append_left zs ys k x e

pub append_right : {X : Type 0} (xs ys : List X) (j k : ℕ) (x : X) → k ≡ length xs + j → slice_get ys j ≡ Some x → slice_get (xs ++ ys) k ≡ Some x
append_right [] ys j k x at e = let same : k ≡ j = omega (arith, at) in rw same e
append_right (z ∷ zs) ys j zero x at e = absurd (omega (arith, at))
append_right (z ∷ zs) ys j (suc k) x at e = append_right zs ys j k x (omega (arith, at)) e
