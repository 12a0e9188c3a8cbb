-- What stands at places of lists.
use Rattle.std.proofs.Common.{◌≡◌, ℕ, zero, suc, ◌+◌, ◌<◌, ◌≤◌, List, [], ◌∷◌, ◌++◌, length, map, get_or, Option, Some, None, refl, sym, ap, ◌∙◌, subst, inl, inr, arith}
use Rattle.std.specs.Prelude.{Contains, slice_get}
use Rattle.std.specs.Option.{option_map}
use Rattle.std.specs.List.{AllByRecursion}
use Rattle.std.specs.List.Sorted.{IsStrictlyIncreasing}
use Rattle.std.proofs.lemmas.Bool.{cases_lt, cases_eq}
use Rattle.std.proofs.lemmas.List.Kept.{AllPairs-from_increasing}
use Rattle.std.proofs.lemmas.Option.{slice_get_within, slice_get-get_or, slice_get_read, get_or_from_slice_get}
use Rattle.case_book.proofs.Numbered.{under, stands_once}
use Rattle.audit_core.specs.Report.{HoldsOfEach}
use Rattle.audit_core.specs.Glue.{HoldsBefore}

one_there : {X : Type 0} (o : Option X) (x y : X) → o ≡ Some x → o ≡ Some y → x ≡ y
one_there o x y e f = let both : Some x ≡ Some y = sym e ∙ f in cc

-- what a loop reads at a place within the list
pub at_index : {X : Type 0} (xs : List X) (n : ℕ) (x : X) → x ≡ get_or xs n x → n < length xs → slice_get xs n ≡ Some x
at_index xs n x is lt = slice_get_read xs (length xs) n x refl lt is

-- ---- each so far

pub holds_none : {X : Type 0} (P : X → Type 0) (xs : List X) → HoldsBefore P xs 0
holds_none P xs k x lt at = absurd (omega arith)

pub holds_more : {X : Type 0} (P : X → Type 0) (xs : List X) (n : ℕ) (x : X) → slice_get xs n ≡ Some x → P x → HoldsBefore P xs n → HoldsBefore P xs (n + 1)
holds_more {X = X} P xs n x at so before k y lt there =
    elim (cases_eq k n) [
      | inl same ↦ subst P (one_there (slice_get xs n) x y at (subst (λ (m : ℕ). slice_get xs m ≡ Some y) same there)) so
      | inr other ↦ before k y (omega arith) there
    ]

pub holds_all : {X : Type 0} (P : X → Type 0) (xs : List X) (n : ℕ) → HoldsBefore P xs n → length xs ≤ n → HoldsOfEach P xs
holds_all P xs n before le k x at = before k x (let lt = slice_get_within xs k x at in omega arith) at

-- ---- a list contains what stands at a place of it

pub place_of : {X : Type 0} (xs : List X) (x : X) → Contains xs x → (k : ℕ) × (slice_get xs k ≡ Some x)
place_of xs x h = (h.0, slice_get-get_or xs h.0 x h.1 ∙ ap Some h.2)

pub contained : {X : Type 0} (xs : List X) (k : ℕ) (x : X) → slice_get xs k ≡ Some x → Contains xs x
contained xs k x at = (k, slice_get_within xs k x at, get_or_from_slice_get xs k x x at)

-- ---- in front, behind, and under a map

pub in_front : {X : Type 0} (xs ys : List X) (k : ℕ) (x : X) → slice_get xs k ≡ Some x → slice_get (xs ++ ys) k ≡ Some x
in_front [] ys k x at = absurd cc
in_front (z ∷ xs) ys zero x at = at
in_front (z ∷ xs) ys (suc k) x at = in_front xs ys k x at

pub behind : {X : Type 0} (xs ys : List X) (k : ℕ) → slice_get (xs ++ ys) (length xs + k) ≡ slice_get ys k
behind [] ys k = let e : 0 + k ≡ k = omega arith in rw e refl
behind (z ∷ xs) ys k = let e : suc (length xs) + k ≡ suc (length xs + k) = omega arith in rw e (behind xs ys k)

pub from_map : {X Y : Type 0} (f : X → Y) (o : Option X) (y : Y) → option_map f o ≡ Some y → (x : X) × (o ≡ Some x) × (f x ≡ y)
from_map f None y e = absurd cc
from_map f (Some x) y e = (x, refl, cc)

-- ---- two lists are the same

pub same_lists : {X : Type 0} (xs ys : List X) → length xs ≡ length ys → ((k : ℕ) (x : X) → slice_get xs k ≡ Some x → slice_get ys k ≡ Some x) → xs ≡ ys
same_lists [] [] long same = refl
same_lists [] (y ∷ ys) long same = absurd (omega arith)
same_lists (x ∷ xs) [] long same = absurd (omega arith)
same_lists (x ∷ xs) (y ∷ ys) long same =
    let first : Some y ≡ Some x = same 0 x refl in
    let rest : xs ≡ ys = same_lists xs ys (omega arith) (λ k. same (suc k)) in
    cc

-- ---- what holds of each by recursion

pub each_at : {X : Type 0} (P : X → Type 0) (xs : List X) → AllByRecursion P xs → (k : ℕ) (x : X) → slice_get xs k ≡ Some x → P x
each_at P [] all k x at = absurd cc
each_at P (y ∷ ys) all zero x at = let same : y ≡ x = cc in subst P same all.0
each_at P (y ∷ ys) all (suc k) x at = each_at P ys all.1 k x at

pub each_so : {X : Type 0} (P Q : X → Type 0) → ((x : X) → P x → Q x) → (xs : List X) → AllByRecursion P xs → AllByRecursion Q xs
each_so P Q so [] all = tt
each_so P Q so (x ∷ xs) all = (so x all.0, each_so P Q so xs all.1)

-- ---- among rising numbers

-- a smaller one stands before
pub smaller_before : {X : Type 0} (f : X → ℕ) (xs : List X) → IsStrictlyIncreasing (map f xs) → (i j : ℕ) (x y : X) → slice_get xs i ≡ Some x → slice_get xs j ≡ Some y → f y < f x → j < i
smaller_before f xs rising i j x y at_i at_j less =
    let here = under f xs i x (f x) at_i refl in
    let there = under f xs j y (f y) at_j refl in
    let low = get_or_from_slice_get (map f xs) i (f x) 0 here in
    let high = get_or_from_slice_get (map f xs) j (f y) 0 there in
    elim (cases_lt j i) [
      | inl lt ↦ lt
      | inr ge ↦ elim (cases_eq i j) [
        | inl same ↦ absurd (let one = one_there (slice_get (map f xs) j) (f x) (f y) (subst (λ (m : ℕ). slice_get (map f xs) m ≡ Some (f x)) same here) there in omega arith)
        | inr other ↦ absurd (
            let lt : i < j = omega arith in
            let rises = AllPairs-from_increasing (map f xs) rising i j 0 lt (slice_get_within (map f xs) j (f y) there) in
            omega (arith, low, high, rises, less)
            )
      ]
    ]

-- a number stands once
pub one_of_number : {X : Type 0} (f : X → ℕ) (xs : List X) → IsStrictlyIncreasing (map f xs) → (i j : ℕ) (x y : X) → slice_get xs i ≡ Some x → slice_get xs j ≡ Some y → f x ≡ f y → x ≡ y
one_of_number f xs rising i j x y at_i at_j same =
    let place : i ≡ j = stands_once (map f xs) rising i j (f y) (under f xs i x (f y) at_i same) (under f xs j y (f y) at_j refl) in
    one_there (slice_get xs j) x y (subst (λ (m : ℕ). slice_get xs m ≡ Some x) place at_i) at_j

-- so for what a list contains
pub one_contained : {X : Type 0} (f : X → ℕ) (xs : List X) → IsStrictlyIncreasing (map f xs) → (x y : X) → Contains xs x → Contains xs y → f x ≡ f y → x ≡ y
one_contained f xs rising x y here there same =
    let one = place_of xs x here in
    let other = place_of xs y there in
    one_of_number f xs rising one.0 other.0 x y one.1 other.1 same
