-- A link found by its connection, among links by rising connection.
use Rattle.std.proofs.Common.{◌≡◌, ◌≢◌, ℕ, ◌<◌, Bool, false, List, length, get_or, sym, ap, ◌∙◌, inl, inr, arith}
use Rattle.std.specs.Prelude.{◌==◌, ◌&&◌, ◌||◌}
use Rattle.std.specs.List.{list_any}
use Rattle.std.specs.List.Sorted.{IsStrictlyIncreasing, IsNonDecreasingBy, IsPartitionPoint}
use Rattle.std.specs.Ordering.{nat_cmp, ordering_index}
use Rattle.std.specs.declared.cmp.Ordering.TheVariants.{Less, Greater}
use Rattle.std.proofs.lemmas.Bool.{cases_eq, cases_lt, eq-eqb}
use Rattle.std.proofs.lemmas.Bool.Decides.{nat_tests}
use Rattle.std.proofs.lemmas.Cmp.{ranked}
use Rattle.std.proofs.lemmas.List.{get_or-map, get_or_default, length-map}
use Rattle.std.proofs.lemmas.List.Folds.{list_any_none, list_any_at}
use Rattle.std.proofs.lemmas.List.Kept.{AllPairs-from_increasing}
use Rattle.case_book.specs.Case.{connections_of}
use Rattle.case_book.specs.Ties.{is_linked}
use Rattle.case_book.specs.declared.link.Link.{Link}
use Rattle.case_book.proofs.Numbers.{bool_cases}

-- where all elements but one fail a test, that one settles whether any passes
settled : {X : Type 0} (p : X → Bool) (xs : List X) (i : ℕ) (d : X) → i < length xs → ((j : ℕ) (e : X) → j < length xs → j ≢ i → p (get_or xs j e) ≡ false) → list_any p xs ≡ p (get_or xs i d)
settled p xs i d lt others =
    elim (bool_cases (p (get_or xs i d))) [
      | inl passes ↦ list_any_at p xs i d lt passes ∙ sym passes
      | inr fails ↦ list_any_none p xs (λ j e within. elim (cases_eq j i) [
        | inl same ↦ ap p (get_or_default xs j e d within ∙ ap (λ k. get_or xs k d) same) ∙ fails
        | inr other ↦ others j e within other
      ]) ∙ sym fails
    ]

-- the connection of the link at a place
abbrev pub at_place : List Link → ℕ → Link → ℕ
at_place links i d = let link = get_or links i d in link.connection

-- a link has this connection and this vat as an end
abbrev joins : ℕ → ℕ → Link → Bool
joins vat connection link = (link.connection == connection) && ((link.a == vat) || (link.b == vat))

another_connection : (vat connection : ℕ) (link : Link) → (link.connection == connection) ≡ false → joins vat connection link ≡ false
another_connection vat connection link other = ap (λ (b : Bool). b && ((link.a == vat) || (link.b == vat))) other

this_connection : (vat connection : ℕ) (link : Link) → link.connection ≡ connection → joins vat connection link ≡ ((link.a == vat) || (link.b == vat))
this_connection vat connection link same = ap (λ (b : Bool). b && ((link.a == vat) || (link.b == vat))) (eq-eqb link.connection connection same)

unequal : (m n : ℕ) → m ≢ n → (m == n) ≡ false
unequal m n other = grind (arith, nat_tests)

module _ (links : List Link) (rising : IsStrictlyIncreasing (connections_of links)) where
  rises_to : (i j : ℕ) (d : Link) → i < j → j < length links → at_place links i d < at_place links j d
  rises_to i j d lt within =
      let low = get_or-map (λ (link : Link). link.connection) links i d 0 (omega arith) in
      let high = get_or-map (λ (link : Link). link.connection) links j d 0 within in
      omega (arith, low, high, AllPairs-from_increasing (connections_of links) rising i j 0 lt (omega (arith, length-map links (λ (link : Link). link.connection))))

  -- the comparisons with a connection don't fall along the links
  pub comparisons_rise : (connection : ℕ) → IsNonDecreasingBy (λ (link : Link). ordering_index (nat_cmp link.connection connection)) links
  comparisons_rise connection i j d le within =
      elim (cases_eq i j) [
        | inl same ↦ let e = ap (λ k. ordering_index (nat_cmp (at_place links k d) connection)) same in omega (arith, e)
        | inr other ↦ let lt = rises_to i j d (omega (arith, other)) within in grind (arith, nat_tests)
      ]

  -- a link of the connection settles whether the vat is an end of any
  pub found_at : (vat connection at : ℕ) (d : Link) → at < length links → at_place links at d ≡ connection
      → is_linked links vat connection ≡ (((get_or links at d).a == vat) || ((get_or links at d).b == vat))
  found_at vat connection at d within here =
      settled (joins vat connection) links at d within (λ j e below other. another_connection vat connection (get_or links j e) (unequal _ _ (elim (cases_lt j at) [
        | inl lt ↦ let up = rises_to j at e lt within in let same = ap (λ (link : Link). link.connection) (get_or_default links at e d within) in omega arith
        | inr ge ↦ let up = rises_to at j e (omega (arith, other)) below in let same = ap (λ (link : Link). link.connection) (get_or_default links at e d within) in omega arith
      ])))
      ∙ this_connection vat connection (get_or links at d) here

  -- where the connection would stand between two others, no link has it
  pub found_nowhere : (vat connection at : ℕ) → IsPartitionPoint (λ (link : Link). nat_cmp link.connection connection ≡ Less) (λ link. nat_cmp link.connection connection ≡ Greater) links at → is_linked links vat connection ≡ false
  found_nowhere vat connection at parted =
      list_any_none (joins vat connection) links (λ j e below. another_connection vat connection (get_or links j e) (unequal _ _ (elim (cases_lt j at) [
        | inl lt ↦ let less = ranked _ connection _ (sym (parted.0 j e (omega arith) lt)) in omega arith
        | inr ge ↦ let more = ranked _ connection _ (sym (parted.1 j e ge below)) in omega arith
      ])))
