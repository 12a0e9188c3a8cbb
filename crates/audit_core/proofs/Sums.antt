-- Sums over lists: added, taken from each other, swapped, and with one or two terms that aren't 0.
use Rattle.std.proofs.Common.{◌≡◌, ◌≢◌, ℕ, zero, suc, ◌+◌, ◌-◌, ◌≤◌, true, cond, List, [], ◌∷◌, Some, refl, sym, ap, ◌∙◌, inl, inr, arith}
use Rattle.std.specs.Prelude.{◌==◌, sum_by, slice_get}
use Rattle.std.proofs.lemmas.Bool.{cases_eq, eq-eqb, ne_eqb}
use Rattle.std.proofs.lemmas.List.Sums.{sum_by-cons}

-- ---- term by term

pub same_sums : {X : Type 0} (f g : X → ℕ) (xs : List X) → ((i : ℕ) (x : X) → slice_get xs i ≡ Some x → f x ≡ g x) → sum_by f xs ≡ sum_by g xs
same_sums f g [] same = refl
same_sums f g (x ∷ xs) same =
    let first = same 0 x refl in
    let rest = same_sums f g xs (λ i. same (suc i)) in
    omega (arith, first, rest, sum_by-cons f x xs, sum_by-cons g x xs)

pub sum_of_none : {X : Type 0} (f : X → ℕ) (xs : List X) → ((i : ℕ) (x : X) → slice_get xs i ≡ Some x → f x ≡ 0) → sum_by f xs ≡ 0
sum_of_none f [] none = refl
sum_of_none f (x ∷ xs) none =
    let first = none 0 x refl in
    let rest = sum_of_none f xs (λ i. none (suc i)) in
    omega (arith, first, rest, sum_by-cons f x xs)

pub added : {X : Type 0} (f g : X → ℕ) (xs : List X) → sum_by (λ x. f x + g x) xs ≡ sum_by f xs + sum_by g xs
added f g [] = refl
added f g (x ∷ xs) = omega (arith, added f g xs, sum_by-cons (λ y. f y + g y) x xs, sum_by-cons f x xs, sum_by-cons g x xs)

-- each term is taken from one that is no smaller
pub taken_away : {X : Type 0} (f g : X → ℕ) (xs : List X) → ((i : ℕ) (x : X) → slice_get xs i ≡ Some x → g x ≤ f x)
    → sum_by (λ x. f x - g x) xs + sum_by g xs ≡ sum_by f xs
taken_away f g [] less = refl
taken_away f g (x ∷ xs) less =
    let first = less 0 x refl in
    let rest = taken_away f g xs (λ i. less (suc i)) in
    omega (arith, first, rest, sum_by-cons (λ y. f y - g y) x xs, sum_by-cons f x xs, sum_by-cons g x xs)

pub no_greater : {X : Type 0} (f g : X → ℕ) (xs : List X) → ((i : ℕ) (x : X) → slice_get xs i ≡ Some x → f x ≤ g x) → sum_by f xs ≤ sum_by g xs
no_greater f g xs less = omega (arith, taken_away g f xs less)

-- ---- the order of two sums

pub swapped : {X Y : Type 0} (f : X → Y → ℕ) (xs : List X) (ys : List Y) → sum_by (λ x. sum_by (f x) ys) xs ≡ sum_by (λ y. sum_by (λ x. f x y) xs) ys
swapped f [] ys = sym (sum_of_none (λ y. sum_by (λ x. f x y) []) ys (λ i y at. refl))
swapped f (x ∷ xs) ys =
    sum_by-cons (λ z. sum_by (f z) ys) x xs ∙ ap (λ (n : ℕ). sum_by (f x) ys + n) (swapped f xs ys)
    ∙ sym (added (f x) (λ y. sum_by (λ z. f z y) xs) ys)
    ∙ same_sums (λ y. f x y + sum_by (λ z. f z y) xs) (λ y. sum_by (λ z. f z y) (x ∷ xs)) ys (λ i y at. sym (sum_by-cons (λ z. f z y) x xs))

-- ---- the terms of one or two keys

-- two of one key stand at one place
abbrev pub AreApart : {X : Type 0} → (X → ℕ) → List X → Type 0
AreApart {X = X} key xs = (i j : ℕ) (x y : X) → slice_get xs i ≡ Some x → slice_get xs j ≡ Some y → key x ≡ key y → i ≡ j

apart_later : {X : Type 0} (key : X → ℕ) (x : X) (xs : List X) → AreApart key (x ∷ xs) → AreApart key xs
apart_later key x xs apart i j y z here there same = let e = apart (suc i) (suc j) y z here there same in omega (arith, e)

-- all terms are 0 but that of this key
pub sum_of_one : {X : Type 0} (key f : X → ℕ) (xs : List X) (place : ℕ) (x : X) → AreApart key xs → slice_get xs place ≡ Some x
    → ((i : ℕ) (y : X) → slice_get xs i ≡ Some y → key y ≢ key x → f y ≡ 0) → sum_by f xs ≡ f x
sum_of_one key f [] place x apart at none = absurd cc
sum_of_one {X = X} key f (y ∷ ys) zero x apart at none =
    let same : y ≡ x = cc in
    let rest = sum_of_none f ys (λ i z there. none (suc i) z there (λ e. (let p = apart (suc i) 0 z x there at e in absurd (omega (arith, p))))) in
    omega (arith, rest, sum_by-cons f y ys, ap f same)
sum_of_one key f (y ∷ ys) (suc place) x apart at none =
    let first = none 0 y refl (λ e. (let p = apart 0 (suc place) y x refl at e in absurd (omega (arith, p)))) in
    let rest = sum_of_one key f ys place x (apart_later key y ys apart) at (λ i. none (suc i)) in
    omega (arith, first, rest, sum_by-cons f y ys)

-- all terms are 0 but those of these two keys
module _ {X : Type 0} (key f : X → ℕ) (xs : List X) (apart : AreApart key xs) (i j : ℕ) (x y : X) (here : slice_get xs i ≡ Some x) (there : slice_get xs j ≡ Some y) (differ : key y ≢ key x)
    (none : (k : ℕ) (z : X) → slice_get xs k ≡ Some z → key z ≢ key x → key z ≢ key y → f z ≡ 0) where
  abbrev first : X → ℕ
  first z = cond (key z == key x) (f z) 0

  abbrev second : X → ℕ
  second z = cond (key z == key x) 0 (f z)

  at_first : (z : X) → (key z == key x) ≡ true → (first z ≡ f z) × (second z ≡ 0)
  at_first z same = (rw same refl, rw same refl)

  elsewhere : (z : X) → key z ≢ key x → (first z ≡ 0) × (second z ≡ f z)
  elsewhere z other = let e = ne_eqb (key z) (key x) other in (rw e refl, rw e refl)

  split : (z : X) → f z ≡ first z + second z
  split z =
      elim (cases_eq (key z) (key x)) [
        | inl same ↦ let p = at_first z (eq-eqb (key z) (key x) same) in omega (arith, p.0, p.1)
        | inr other ↦ let p = elsewhere z other in omega (arith, p.0, p.1)
      ]

  second_none : (k : ℕ) (z : X) → slice_get xs k ≡ Some z → key z ≢ key y → second z ≡ 0
  second_none k z at other =
      elim (cases_eq (key z) (key x)) [
        | inl same ↦ (at_first z (eq-eqb (key z) (key x) same)).1
        | inr also ↦ (elsewhere z also).1 ∙ none k z at also other
      ]

  pub sum_of_two : sum_by f xs ≡ f x + f y
  sum_of_two =
      let halves = same_sums f (λ z. first z + second z) xs (λ k z at. split z) ∙ added first second xs in
      let one = sum_of_one key first xs i x apart here (λ k z at other. (elsewhere z other).0) in
      let two = sum_of_one key second xs j y apart there second_none in
      let own = at_first x (eq-eqb (key x) (key x) refl) in
      let other = elsewhere y differ in
      omega (arith, halves, one, two, own.0, other.1)
