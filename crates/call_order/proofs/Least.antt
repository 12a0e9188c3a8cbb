-- The least place at which one of the vats tells of a break.
use Rattle.std.proofs.Common.{◌≡◌, ◌⊎◌, inl, inr, refl, sym, ◌∙◌, ap, subst, ℕ, ◌<◌, ◌≤◌, ◌==◌, List, [], ◌∷◌, ◌++◌, Bool, true, false, ◌&&◌, ◌||◌, cond, Option, Some, None, if◌then◌else◌, append_assoc, arith, eqb-true}
use Rattle.std.specs.BTreeMap.{get, is_at, values, IsOrdered}
use Rattle.std.specs.Cmp.{nat_cmp_total}
use Rattle.std.specs.List.{AllByRecursion}
use Rattle.std.specs.Map.{lookup, values_of}
use Rattle.std.specs.Ordering.{nat_cmp}
use Rattle.std.specs.Prelude.{nat_lt, nat_le, unwrap_or}
use Rattle.std.proofs.lemmas.Bool.{cases_eq, eq-eqb, false≢true, ltb-true, ltb-false, leb-true, leb-false}
use Rattle.std.proofs.lemmas.List.{append-nil}
use Rattle.std.proofs.lemmas.List.Elements.{recursion_from_All}
use Rattle.std.proofs.lemmas.Map.Views.{All-found}
use Rattle.run_model.specs.Early.{IsAtMost, IsLeastOf}
use Rattle.run_model.specs.Steps.{OneOf}
use Rattle.undelivered.specs.Places.{is_at_most, lesser}
use Rattle.undelivered.specs.Order.{PastCalls, AreOnce, IsFault, early}
use Rattle.call_order.specs.Glue.Told.{calls_told, AreAllOnce, IsEarlyIn, IsFaultIn}
use Rattle.call_order.specs.declared.told.Told.{Told}

abbrev pub Place : Type 0
Place = ℕ × ℕ

abbrev pub In : Place → List Place → Type 0
In place places = OneOf (λ p. p ≡ place) places

-- ---- places, by vat and then by number

at_most_trans : (a b c : Place) → IsAtMost a b → IsAtMost b c → IsAtMost a c
at_most_trans a b c (inl h) (inl g) = inl (omega (arith, h, g))
at_most_trans a b c (inl h) (inr g) = inl (omega (arith, h, g.0))
at_most_trans a b c (inr h) (inl g) = inl (omega (arith, h.0, g))
at_most_trans a b c (inr h) (inr g) = inr (h.0 ∙ g.0, omega (arith, h.1, g.1))

at_most_means : (a b : Place) → is_at_most a b ≡ true → IsAtMost a b
unfolding is_at_most
at_most_means a b h = at (nat_lt a.0 b.0) (a.0 == b.0) (nat_le a.1 b.1) refl refl refl h
  where
    at : (x y z : Bool) → nat_lt a.0 b.0 ≡ x → (a.0 == b.0) ≡ y → nat_le a.1 b.1 ≡ z → (x || (y && z)) ≡ true → IsAtMost a b
    at true y z lt eq le h = inl (ltb-true _ _ lt)
    at false true true lt eq le h = inr (eqb-true a.0 b.0 eq, leb-true _ _ le)
    at false true false lt eq le h = absurd (let no : ⊥ = cc in no)
    at false false z lt eq le h = absurd (let no : ⊥ = cc in no)

above_means : (a b : Place) → is_at_most a b ≡ false → IsAtMost b a
unfolding is_at_most
above_means a b h = at (nat_lt a.0 b.0) (a.0 == b.0) (nat_le a.1 b.1) refl refl refl h
  where
    above : nat_lt a.0 b.0 ≡ false → (a.0 == b.0) ≡ false → b.0 < a.0
    above lt eq = let le : b.0 ≤ a.0 = ltb-false _ _ lt in elim (cases_eq a.0 b.0) [
      | inl same ↦ absurd (false≢true (sym eq ∙ eq-eqb a.0 b.0 same))
      | inr apart ↦ omega (arith, le, apart)
    ]

    at : (x y z : Bool) → nat_lt a.0 b.0 ≡ x → (a.0 == b.0) ≡ y → nat_le a.1 b.1 ≡ z → (x || (y && z)) ≡ false → IsAtMost b a
    at true y z lt eq le h = absurd (let no : ⊥ = cc in no)
    at false true true lt eq le h = absurd (let no : ⊥ = cc in no)
    at false true false lt eq le h = let less : b.1 < a.1 = leb-false _ _ le in inr (sym (eqb-true a.0 b.0 eq), omega (arith, less))
    at false false z lt eq le h = inl (above lt eq)

-- ---- lists of places

pub in_left : (q : Place) (xs ys : List Place) → In q xs → In q (xs ++ ys)
in_left q [] ys h = absurd h
in_left q (x ∷ xs) ys (inl same) = inl same
in_left q (x ∷ xs) ys (inr h) = inr (in_left q xs ys h)

pub in_right : (q : Place) (xs ys : List Place) → In q ys → In q (xs ++ ys)
in_right q [] ys h = h
in_right q (x ∷ xs) ys h = inr (in_right q xs ys h)

pub in_either : (q : Place) (xs ys : List Place) → In q (xs ++ ys) → In q xs ⊎ In q ys
in_either q [] ys h = inr h
in_either q (x ∷ xs) ys (inl same) = inl (inl same)
in_either q (x ∷ xs) ys (inr h) = elim (in_either q xs ys h) [
  | inl left ↦ inl (inr left)
  | inr right ↦ inr right
]

pub one_in : (P : Place → Type 0) (q : Place) (xs : List Place) → AllByRecursion P xs → In q xs → P q
one_in P q [] all h = absurd h
one_in P q (x ∷ xs) all (inl same) = subst P same all.0
one_in P q (x ∷ xs) all (inr h) = one_in P q xs all.1 h

all_below : (a b : Place) (xs : List Place) → IsAtMost a b → AllByRecursion (IsAtMost b) xs → AllByRecursion (IsAtMost a) xs
all_below a b [] h all = tt
all_below a b (x ∷ xs) h all = (at_most_trans a b x h all.0, all_below a b xs h all.1)

all_with : (a : Place) (xs ys : List Place) → AllByRecursion (IsAtMost a) xs → AllByRecursion (IsAtMost a) ys → AllByRecursion (IsAtMost a) (xs ++ ys)
all_with a [] ys h g = g
all_with a (x ∷ xs) ys h g = (h.0, all_with a xs ys h.1 g)

-- the lesser of the least of these and of the least of those is the least of all
least_with : (xs ys : List Place) (a b : Option Place) → IsLeastOf xs a → IsLeastOf ys b → IsLeastOf (xs ++ ys) (lesser a b)
least_with xs ys None b h g = subst (λ l. IsLeastOf (l ++ ys) b) (sym h) g
least_with xs ys (Some a) None h g = subst (λ l. IsLeastOf (xs ++ l) (Some a)) (sym g) (subst (λ l. IsLeastOf l (Some a)) (sym (append-nil xs)) h)
least_with xs ys (Some a) (Some b) h g = at (is_at_most a b) refl
  where
    at : (x : Bool) → is_at_most a b ≡ x → IsLeastOf (xs ++ ys) (if x then Some a else Some b)
    at true most = (in_left a xs ys h.0, all_with a xs ys h.1 (all_below a b ys (at_most_means a b most) g.1))
    at false above = (in_right b xs ys g.0, all_with b xs ys (all_below b a xs (above_means a b above) h.1) g.1)

-- ---- where calls of several vats are delivered too early

abbrev pub early_of : List PastCalls → List Place
early_of [] = []
early_of (past ∷ pasts) = early past ++ early_of pasts

early_last : (pasts : List PastCalls) (past : PastCalls) → early_of (pasts ++ past ∷ []) ≡ early_of pasts ++ early past
early_last [] past = append-nil (early past)
early_last (first ∷ pasts) past = ap (λ l. early first ++ l) (early_last pasts past) ∙ sym (append_assoc (early first) (early_of pasts) (early past))

-- one vat more
pub least_more : (pasts : List PastCalls) (past : PastCalls) (known found : Option Place) → IsLeastOf (early_of pasts) known → IsFault past found → IsLeastOf (early_of (pasts ++ past ∷ [])) (lesser known found)
least_more pasts past known found h g =
    subst (λ l. IsLeastOf l (lesser known found)) (sym (early_last pasts past)) (least_with (early_of pasts) (early past) known found h g)

-- ---- those of a table

-- each entry is found
abbrev AreFound : Told → List (ℕ × PastCalls) → Type 0
AreFound told entries = AllByRecursion (λ e. get nat_cmp told.vats e.0 ≡ Some e.1) entries

module _ (told : Told) where
  told_is : (e : ℕ × PastCalls) → get nat_cmp told.vats e.0 ≡ Some e.1 → calls_told told e.0 ≡ e.1
  told_is e found = ap (λ o. unwrap_or o []) found

  all_once : (entries : List (ℕ × PastCalls)) → AreFound told entries → AreAllOnce told → AllByRecursion AreOnce (values_of entries)
  all_once [] found once = tt
  all_once (e ∷ entries) found once = (subst AreOnce (told_is e found.0) (once e.0), all_once entries found.1 once)

  is_early : (q : Place) (entries : List (ℕ × PastCalls)) → AreFound told entries → In q (early_of (values_of entries)) → IsEarlyIn told q
  is_early q [] found h = absurd h
  is_early q (e ∷ entries) found h = elim (in_either q (early e.1) (early_of (values_of entries)) h) [
    | inl here ↦ (e.0, subst (λ past. In q (early past)) (sym (told_is e found.0)) here)
    | inr rest ↦ is_early q entries found.1 rest
  ]

  among : (q : Place) (v : ℕ) (entries : List (ℕ × PastCalls)) (past : PastCalls) → lookup (is_at (nat_cmp v)) entries ≡ Some past → In q (early past) → In q (early_of (values_of entries))
  among q v [] past found h = absurd (let no : ⊥ = cc in no)
  among q v (e ∷ entries) past found h = at (is_at (nat_cmp v) e.0) found (λ rest. among q v entries past rest h)
    where
      at : (b : Bool) → cond b (Some e.1) (lookup (is_at (nat_cmp v)) entries) ≡ Some past → (lookup (is_at (nat_cmp v)) entries ≡ Some past → In q (early_of (values_of entries))) →
          In q (early e.1 ++ early_of (values_of entries))
      at true same rest = let is : e.1 ≡ past = cc in in_left q (early e.1) (early_of (values_of entries)) (subst (λ p. In q (early p)) (sym is) h)
      at false other rest = in_right q (early e.1) (early_of (values_of entries)) (rest other)

  early_among : (q : Place) → IsEarlyIn told q → In q (early_of (values told.vats))
  early_among q h = at (get nat_cmp told.vats h.0) refl h.1
    where
      at : (o : Option PastCalls) → get nat_cmp told.vats h.0 ≡ o → In q (early (unwrap_or o [])) → In q (early_of (values told.vats))
      at None none h = absurd h
      at (Some past) found here = among q h.0 told.vats.entries past found here

  module _ (ordered : IsOrdered nat_cmp told.vats) where
    found_all : AreFound told told.vats.entries
    found_all = recursion_from_All (λ e. get nat_cmp told.vats e.0 ≡ Some e.1) told.vats.entries (All-found nat_cmp_total told.vats ordered)

    pub values_once : AreAllOnce told → AllByRecursion AreOnce (values told.vats)
    values_once once = all_once told.vats.entries found_all once

    pub fault_in : (found : Option Place) → IsLeastOf (early_of (values told.vats)) found → IsFaultIn told found
    fault_in None least = λ q h. absurd (subst (In q) least (early_among q h))
    fault_in (Some p) least = (is_early p told.vats.entries found_all least.0, λ q h. one_in (IsAtMost p) q (early_of (values told.vats)) least.1 (early_among q h))

-- ---- one value after another

-- the least of the values so far, and the values that are left
pub record IsLeastSoFar (told : Told) (known : Option Place) (rest : List PastCalls) : Type 0 where
  pub pasts : List PastCalls
  pub all : values told.vats ≡ pasts ++ rest
  pub least : AreAllOnce told → IsLeastOf (early_of pasts) known

one_once : (xs : List PastCalls) (x : PastCalls) (ys : List PastCalls) → AllByRecursion AreOnce (xs ++ x ∷ ys) → AreOnce x
one_once [] x ys all = all.0
one_once (y ∷ xs) x ys all = one_once xs x ys all.1

pub least_begin : (told : Told) (rest : List PastCalls) → rest ≡ values told.vats → IsLeastSoFar told None rest
least_begin told rest all = record { pasts = []; all = sym all; least = λ once. refl }

pub least_next : (told : Told) → IsOrdered nat_cmp told.vats → (known found : Option Place) (past : PastCalls) (rest now : List PastCalls) → IsLeastSoFar told known now → now ≡ past ∷ rest → (AreOnce past → IsFault past found) →
    IsLeastSoFar told (lesser known found) rest
least_next told ordered known found past rest now so_far is fault =
    let all : values told.vats ≡ so_far.pasts ++ past ∷ rest = so_far.all ∙ ap (λ l. so_far.pasts ++ l) is in record {
      pasts = so_far.pasts ++ past ∷ [];
      all = all ∙ sym (append_assoc so_far.pasts (past ∷ []) rest);
      least = λ once. least_more so_far.pasts past known found (so_far.least once) (fault (one_once so_far.pasts past rest (subst (AllByRecursion AreOnce) all (values_once told ordered once))));
    }

pub least_end : (told : Told) → IsOrdered nat_cmp told.vats → (found : Option Place) (rest : List PastCalls) → IsLeastSoFar told found rest → rest ≡ [] → AreAllOnce told → IsFaultIn told found
least_end told ordered found rest so_far none once =
    fault_in told ordered found (subst (λ l. IsLeastOf (early_of l) found) (sym (so_far.all ∙ ap (λ l. so_far.pasts ++ l) none ∙ append-nil so_far.pasts)) (so_far.least once))
