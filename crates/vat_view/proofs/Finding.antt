-- Finding a path in fields that stand in the order of their paths.
use Rattle.std.proofs.Common.{◌≡◌, ◌<◌, ◌≤◌, inl, inr, refl, sym, ◌∙◌, ap, ap₂, ℕ, zero, suc, ◌==◌, List, [], ◌∷◌, length, Bool, true, false, Option, Some, None, if◌then◌else◌, option_and_then, slice_index_or, arith}
use Rattle.std.specs.Prelude.{find, slice_get, not, ◌&&◌}
use Rattle.std.specs.List.{filter}
use Rattle.std.specs.List.Sorted.{IsSortedBy, IsStableBy, IsNonDecreasingBy, IsPartitionedBy, IsPartitionPoint, ties}
use Rattle.std.specs.Str.{bytes_eq as same_path}
use Rattle.std.specs.Ordering.{nat_cmp, is_lt, is_eq, ordering_index, ordering_reverse}
use Rattle.std.specs.declared.cmp.Ordering.{Ordering}
use Rattle.std.specs.declared.cmp.Ordering.TheVariants.{Less, Equal, Greater}
use Rattle.std.specs.Cmp.Lexicographic.{slice_cmp}
use Rattle.std.proofs.lemmas.Bool.{cases_lt, eqb-true, eq-eqb, ne_eqb, false≢true}
use Rattle.std.proofs.lemmas.Cmp.{nat_list_cmp_total, is_lt_index, is_eq_index}
use Rattle.std.proofs.lemmas.List.Sorted.{searchable_from_sorted}
use Rattle.std.proofs.lemmas.Map.Text.{is_eq-slice_cmp}
use Rattle.std.proofs.lemmas.Option.{slice_get_within, slice_get-get_or, get_or_from_slice_get}
use Rattle.vat_view.specs.Glue.FieldTargets.{is_before, target_among}

none_some : {A : Type 0} {x : A} → None ≡ Some x → ⊥
none_some e = cc

some_same : {A : Type 0} (x y : A) → Some x ≡ Some y → x ≡ y
some_same x y e = cc

-- ---- the first that passes a test

module _ {X : Type 0} (p : X → Bool) where
  pub found_nowhere : (xs : List X) → ((k : ℕ) (d : X) → k < length xs → p (slice_index_or xs k d) ≡ false) → find p xs ≡ None
  found_nowhere [] fails = refl
  found_nowhere (x ∷ xs) fails = ap (λ b. if b then Some x else find p xs) (fails 0 x (omega arith)) ∙ found_nowhere xs (λ k d lt. fails (suc k) d (omega (arith, lt)))

  pub found_at : (xs : List X) (i : ℕ) (f : X) → slice_get xs i ≡ Some f → p f ≡ true → ((k : ℕ) (d : X) → k < i → p (slice_index_or xs k d) ≡ false) → find p xs ≡ Some f
  found_at [] i f at holds fails = absurd (none_some at)
  found_at (x ∷ xs) zero f at holds fails = ap (λ b. if b then Some x else find p xs) (ap p (some_same x f at) ∙ holds) ∙ at
  found_at (x ∷ xs) (suc i) f at holds fails = ap (λ b. if b then Some x else find p xs) (fails 0 x (omega arith)) ∙ found_at xs i f at holds (λ k d lt. fails (suc k) d (omega (arith, lt)))

  pub first_filtered : (xs : List X) → find p xs ≡ slice_get (filter p xs) 0
  first_filtered [] = refl
  first_filtered (x ∷ xs) = inner (p x) (first_filtered xs)
    where
      inner : (b : Bool) → find p xs ≡ slice_get (filter p xs) 0 → (if b then Some x else find p xs) ≡ slice_get (if b then x ∷ filter p xs else filter p xs) 0
      inner true rest = refl
      inner false rest = rest

  pub found_alike : (q : X → Bool) → ((x : X) → p x ≡ q x) → (xs : List X) → find p xs ≡ find q xs
  found_alike q same [] = refl
  found_alike q same (x ∷ xs) = ap₂ (λ b o. if b then Some x else o) (same x) (found_alike q same xs)

-- ---- by the order of paths

two_up : (n : ℕ) → (n == 0) ≡ false → (n == 1) ≡ false → 2 ≤ n
two_up zero none one = absurd (false≢true (sym none))
two_up (suc zero) none one = absurd (false≢true (sym one))
two_up (suc (suc n)) none one = omega arith

above : (n : ℕ) → 2 ≤ n → (n == 1) ≡ false
above zero low = absurd (let wrong : ⊥ = omega (arith, low) in wrong)
above (suc zero) low = absurd (let wrong : ⊥ = omega (arith, low) in wrong)
above (suc (suc n)) low = ne_eqb (suc (suc n)) 1 (λ same. omega (arith, same))

-- 0 before a path, 1 at it, 2 behind it
abbrev rank : List ℕ → Option ℕ × List ℕ → ℕ
rank path f = ordering_index (slice_cmp nat_cmp f.1 path)

is_there : (path : List ℕ) (f : Option ℕ × List ℕ) → same_path f.1 path ≡ (rank path f == 1)
is_there path f = sym (is_eq-slice_cmp f.1 path) ∙ is_eq_index (slice_cmp nat_cmp f.1 path)

module _ (path : List ℕ) (xs : List (Option ℕ × List ℕ)) (up : IsSortedBy is_before xs) where
  rises : IsNonDecreasingBy (rank path) xs
  rises = searchable_from_sorted nat_list_cmp_total (λ f. f.1) xs path up

  pub parted : IsPartitionedBy (λ f. is_lt (slice_cmp nat_cmp f.1 path)) xs
  parted i j d le lt holds =
      let last : rank path (slice_index_or xs j d) ≡ 0 = eqb-true _ _ (sym (is_lt_index (slice_cmp nat_cmp (slice_index_or xs j d).1 path)) ∙ holds) in
      let more = rises i j d le lt in
      is_lt_index (slice_cmp nat_cmp (slice_index_or xs i d).1 path) ∙ eq-eqb _ _ (omega (arith, last, more))

  module _ (at : ℕ) (point : IsPartitionPoint (λ f. is_lt (slice_cmp nat_cmp f.1 path) ≡ true) (λ f. is_lt (slice_cmp nat_cmp f.1 path) ≡ false) xs at) where
    apart : (f : Option ℕ × List ℕ) (n : ℕ) → rank path f ≡ n → (n == 1) ≡ false → same_path f.1 path ≡ false
    apart f n is fails = is_there path f ∙ ap (λ m. m == 1) is ∙ fails

    unlike_before : (k : ℕ) (d : Option ℕ × List ℕ) → k < at → same_path (slice_index_or xs k d).1 path ≡ false
    unlike_before k d lt = apart (slice_index_or xs k d) 0 (eqb-true _ _ (sym (is_lt_index (slice_cmp nat_cmp (slice_index_or xs k d).1 path)) ∙ point.0 k d (omega arith) lt)) refl

    pub hit : (f : Option ℕ × List ℕ) → slice_get xs at ≡ Some f → same_path f.1 path ≡ true → f.0 ≡ target_among path xs
    hit f there holds = sym (ap (λ o. option_and_then (λ field. field.0) o) (found_at (λ field. same_path field.1 path) xs at f there holds unlike_before))

    nothing : ((k : ℕ) (d : Option ℕ × List ℕ) → k < length xs → same_path (slice_index_or xs k d).1 path ≡ false) → None ≡ target_among path xs
    nothing fails = sym (ap (λ o. option_and_then (λ field. field.0) o) (found_nowhere (λ field. same_path field.1 path) xs fails))

    pub past : slice_get xs at ≡ None → None ≡ target_among path xs
    past none = nothing (λ k d lt. elim (cases_lt k at) [
      | inl less ↦ unlike_before k d less
      | inr behind ↦ absurd (none_some (sym none ∙ slice_get-get_or xs at d (omega (arith, lt, behind))))
    ])

    pub miss : (f : Option ℕ × List ℕ) → slice_get xs at ≡ Some f → same_path f.1 path ≡ false → None ≡ target_among path xs
    miss f there fails = nothing (λ k d lt. elim (cases_lt k at) [
      | inl less ↦ unlike_before k d less
      | inr behind ↦
          let first : slice_index_or xs at d ≡ f = get_or_from_slice_get xs at f d there in
          let less : (rank path f == 0) ≡ false = sym (is_lt_index (slice_cmp nat_cmp f.1 path)) ∙ sym (ap (λ g. is_lt (slice_cmp nat_cmp g.1 path)) first) ∙ point.1 at d (omega arith) (slice_get_within xs at f there) in
          let low = two_up (rank path f) less (sym (is_there path f) ∙ fails) in
          let more = rises at k d behind lt in
          let same : rank path (slice_index_or xs at d) ≡ rank path f = ap (λ g. rank path g) first in
          is_there path (slice_index_or xs k d) ∙ above (rank path (slice_index_or xs k d)) (omega (arith, low, more, same))
    ])

-- ---- sorted, each path has the same first field

tied : (path : List ℕ) (f : Option ℕ × List ℕ) → ties is_before (None, path) f ≡ same_path f.1 path
tied path f = ap (λ o. not (is_lt o) && not (is_lt (slice_cmp nat_cmp f.1 path))) (nat_list_cmp_total.antisymm path f.1) ∙ inner (slice_cmp nat_cmp f.1 path) ∙ is_eq-slice_cmp f.1 path
  where
    inner : (o : Ordering) → (not (is_lt (ordering_reverse o)) && not (is_lt o)) ≡ is_eq o
    inner Less = refl
    inner Equal = refl
    inner Greater = refl

pub first_kept : (xs ys : List (Option ℕ × List ℕ)) → IsStableBy is_before xs ys → (path : List ℕ) → target_among path ys ≡ target_among path xs
first_kept xs ys stable path = ap (λ o. option_and_then (λ field. field.0) o) (
    sym (found_alike (ties is_before (None, path)) (λ field. same_path field.1 path) (tied path) ys)
    ∙ first_filtered (ties is_before (None, path)) ys
    ∙ ap (λ l. slice_get l 0) (stable (None, path))
    ∙ sym (first_filtered (ties is_before (None, path)) xs)
    ∙ found_alike (ties is_before (None, path)) (λ field. same_path field.1 path) (tied path) xs)
