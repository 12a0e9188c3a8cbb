-- The least number of a list stands in it, and none there is smaller.
use Rattle.std.proofs.Common.{◌≡◌, ℕ, zero, suc, ◌<◌, ◌≤◌, List, [], ◌∷◌, length, Option, Some, None, fold, refl, sym, ap, subst, inl, inr, arith}
use Rattle.std.specs.Prelude.{◌⊎◌, Contains, slice_index_or}
use Rattle.std.proofs.lemmas.Bool.{cases_lt, lt-ltb}
use Rattle.case_book.specs.Least.{lower, least, IsLeast}
use Rattle.case_book.proofs.Numbers.{not_below}

here : (n : ℕ) (ns : List ℕ) → Contains (n ∷ ns) n
here n ns = (0, omega arith, refl)

later : (m n : ℕ) (ns : List ℕ) → Contains ns n → Contains (m ∷ ns) n
later m n ns h = (suc h.0, omega (arith, h.1), h.2)

first_or_later : (m n : ℕ) (ns : List ℕ) (k : ℕ) → k < length (m ∷ ns) → slice_index_or (m ∷ ns) k n ≡ n → (m ≡ n) ⊎ Contains ns n
first_or_later m n ns zero lt e = inl e
first_or_later m n ns (suc k) lt e = inr (k, omega arith, e)

nowhere : (n : ℕ) → Contains [] n → ⊥
nowhere n h = let lt = h.1 in omega arith

-- a number is the smaller of one and the numbers of a list
pub record IsLowest (m : ℕ) (ns : List ℕ) (n : ℕ) : Type 0 where
  pub found : fold lower (Some m) ns ≡ Some n
  pub stands : (n ≡ m) ⊎ Contains ns n
  pub below : n ≤ m
  pub least : (other : ℕ) → Contains ns other → n ≤ other

lowest : (m : ℕ) (ns : List ℕ) → (n : ℕ) × IsLowest m ns n
lowest m [] = (m, record { found = refl; stands = inl refl; below = omega arith; least = λ other h. absurd (nowhere other h) })
lowest m (k ∷ ns) =
    elim (cases_lt k m) [
      | inl lt ↦
          let rest = lowest k ns in
          let is = rest.1 in (
            rest.0,
            record {
              found = rw (lt-ltb k m lt) is.found;
              stands = elim is.stands [
                | inl same ↦ inr (subst (Contains (k ∷ ns)) (sym same) (here k ns))
                | inr there ↦ inr (later k rest.0 ns there)
              ];
              below = omega (arith, lt, is.below);
              least = λ other h. elim (first_or_later k other ns h.0 h.1 h.2) [
                | inl same ↦ omega (arith, is.below, same)
                | inr there ↦ is.least other there
              ];
            },
          )
      | inr ge ↦
          let rest = lowest m ns in
          let is = rest.1 in (
            rest.0,
            record {
              found = rw (not_below k m ge) is.found;
              stands = elim is.stands [
                | inl same ↦ inl same
                | inr there ↦ inr (later k rest.0 ns there)
              ];
              below = is.below;
              least = λ other h. elim (first_or_later k other ns h.0 h.1 h.2) [
                | inl same ↦ omega (arith, is.below, same, ge)
                | inr there ↦ is.least other there
              ];
            },
          )
    ]

pub least_of : (ns : List ℕ) → IsLeast ns (least ns)
least_of [] = refl
least_of (m ∷ ns) =
    let is = (lowest m ns).1 in
    subst (IsLeast (m ∷ ns)) (sym is.found) (
      elim is.stands [
        | inl same ↦ subst (Contains (m ∷ ns)) (sym same) (here m ns)
        | inr there ↦ later m (lowest m ns).0 ns there
      ],
      λ other h. elim (first_or_later m other ns h.0 h.1 h.2) [
        | inl same ↦ omega (arith, is.below, same)
        | inr there ↦ is.least other there
      ],
    )

one_least : (ns : List ℕ) (a b : Option ℕ) → IsLeast ns a → IsLeast ns b → a ≡ b
one_least ns None None one other = refl
one_least ns None (Some n) one other = absurd (nowhere n (subst (λ (l : List ℕ). Contains l n) one other.0))
one_least ns (Some m) None one other = absurd (nowhere m (subst (λ (l : List ℕ). Contains l m) other one.0))
one_least ns (Some m) (Some n) one other = let le = one.1 n other.0 in let ge = other.1 m one.0 in let same : m ≡ n = omega arith in ap Some same

pub only_least : (ns : List ℕ) (found : Option ℕ) → IsLeast ns found → found ≡ least ns
only_least ns found is = one_least ns found (least ns) is (least_of ns)
