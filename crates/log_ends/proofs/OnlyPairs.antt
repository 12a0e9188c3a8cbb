-- There is one way to pair all ends.
use Rattle.std.proofs.Common.{◌≡◌, ◌⊎◌, inl, inr, ℕ, zero, suc, ◌<◌, ◌≤◌, List, [], ◌∷◌, Option, Some, None, get_or, refl, sym, ap, ap₂, subst, ◌∙◌, arith}
use Rattle.std.specs.Prelude.{slice_get}
use Rattle.std.proofs.lemmas.Option.{none-some, same_Some, slice_get_within, slice_get-get_or}
use Rattle.std.proofs.lemmas.Bool.{cases_lt, cases_order}
use Rattle.vat_log.specs.Log.{Log}
use Rattle.log_ends.specs.Ends.{EndIsBefore, Fits}
use Rattle.log_ends.specs.Joining.{Has, IsPaired, ArePairs, IsJoined}
use Rattle.log_ends.specs.declared.log_end.LogEnd.{LogEnd}
use Rattle.log_ends.specs.declared.log_end.EndPair.{EndPair}
use Rattle.log_ends.proofs.Fitting.{fits_end}
use Rattle.log_ends.proofs.Places.{not_both, not_itself}

end_of : ℕ → ℕ → LogEnd
end_of l c = record { log = l; connection = c }

both_orders : (a b : LogEnd) → (a ≡ b) ⊎ (EndIsBefore a b ⊎ EndIsBefore b a)
unfolding end_of
both_orders a b = by (cases_order a.log b.log) (cases_order a.connection b.connection) where
  by : (a.log ≡ b.log) ⊎ ((a.log < b.log) ⊎ (b.log < a.log)) → (a.connection ≡ b.connection) ⊎ ((a.connection < b.connection) ⊎ (b.connection < a.connection)) → (a ≡ b) ⊎ (EndIsBefore a b ⊎ EndIsBefore b a)
  by (inl e) (inl h) = inl (ap₂ end_of e h)
  by (inl e) (inr (inl h)) = inr (inl (inr (e, h)))
  by (inl e) (inr (inr h)) = inr (inr (inr (sym e, h)))
  by (inr (inl lt)) other = inr (inl (inl lt))
  by (inr (inr lt)) other = inr (inr (inl lt))

chained : (a b c : LogEnd) → EndIsBefore a b → EndIsBefore b c → EndIsBefore a c
chained a b c (inl e) (inl h) = inl (omega (arith, e, h))
chained a b c (inl e) (inr h) = inl (omega (arith, e, h.0))
chained a b c (inr e) (inl h) = inl (omega (arith, e.0, h))
chained a b c (inr e) (inr h) = inr (e.0 ∙ h.0, omega (arith, e.1, h.1))

-- the ends of a pair and of those behind it don't come before its first one
none_before : (logs : List Log) (pairs : List EndPair) → ArePairs logs pairs → (n m : ℕ) (p : EndPair) (end : LogEnd) → slice_get pairs n ≡ Some p → Has pairs m end → n ≤ m → EndIsBefore end p.first → ⊥
none_before logs pairs are n m p end at has le early = by (cases_lt n m) has.ends where
  order : EndIsBefore has.pair.first has.pair.second
  order = are.in_order m has.pair has.there

  here : m ≤ n → has.pair ≡ p
  here ge = same_Some has.pair p (sym has.there ∙ ap (slice_get pairs) (omega (arith, le, ge)) ∙ at)

  by : (n < m) ⊎ (m ≤ n) → (has.pair.first ≡ end) ⊎ (has.pair.second ≡ end) → ⊥
  by (inl lt) (inl is) = not_both end p.first early (subst (λ (e : LogEnd). EndIsBefore p.first e) is (are.rising n m p has.pair lt at has.there))
  by (inl lt) (inr is) = not_both end p.first early (subst (λ (e : LogEnd). EndIsBefore p.first e) is (chained p.first has.pair.first has.pair.second (are.rising n m p has.pair lt at has.there) order))
  by (inr ge) (inl is) = not_itself end (subst (λ (e : LogEnd). EndIsBefore end e) (ap (λ (x : EndPair). x.first) (sym (here ge)) ∙ is) early)
  by (inr ge) (inr is) = not_both end p.first early (subst (λ (e : LogEnd). EndIsBefore e end) (ap (λ (x : EndPair). x.first) (here ge)) (subst (λ (e : LogEnd). EndIsBefore has.pair.first e) is order))

-- both lists have the same pairs before a number
AreSame : List EndPair → List EndPair → ℕ → Type 0
AreSame one other n = (k : ℕ) → k < n → slice_get one k ≡ slice_get other k

turned : (one other : List EndPair) (n : ℕ) → AreSame one other n → AreSame other one n
unfolding AreSame
turned one other n same k lt = sym (same k lt)

there_too : (one other : List EndPair) (n m : ℕ) (end : LogEnd) → AreSame one other n → m < n → Has one m end → Has other m end
unfolding AreSame
there_too one other n m end same lt has = record { pair = has.pair; there = sym (same m lt) ∙ has.there; ends = has.ends }

-- an end of the pair of a number isn't in a pair before it, in either list
not_earlier : (logs : List Log) (one other : List EndPair) → ArePairs logs one → (n m : ℕ) (end : LogEnd) → AreSame one other n → Has one n end → m < n → Has other m end → ⊥
not_earlier logs one other are n m end same has lt early =
    omega (arith, lt, are.once m n end (there_too other one n m end (turned one other n same) lt early) has)

first_of : (one : List EndPair) (n : ℕ) (p : EndPair) → slice_get one n ≡ Some p → Has one n p.first
first_of one n p at = record { pair = p; there = at; ends = inl refl }

second_of : (one : List EndPair) (n : ℕ) (p : EndPair) → slice_get one n ≡ Some p → Has one n p.second
second_of one n p at = record { pair = p; there = at; ends = inr refl }

not_first : (logs : List Log) (one other : List EndPair) → IsJoined logs one → IsJoined logs other → (n : ℕ) (p q : EndPair) → AreSame one other n → slice_get one n ≡ Some p → slice_get other n ≡ Some q → EndIsBefore p.first q.first → ⊥
not_first logs one other joined joins n p q same at also early =
    by paired.0 paired.1 (cases_lt paired.0 n) where
      paired : IsPaired other p.first
      paired = joins.each p.first (fits_end logs p.first p.second (joined.are.fit n p at))

      by : (m : ℕ) → Has other m p.first → (m < n) ⊎ (n ≤ m) → ⊥
      by m has (inl lt) = not_earlier logs one other joined.are n m p.first same (first_of one n p at) lt has
      by m has (inr ge) = none_before logs other joins.are n m q p.first also has ge early

not_second : (logs : List Log) (one other : List EndPair) → IsJoined logs one → IsJoined logs other → (n : ℕ) (p q : EndPair) → AreSame one other n → slice_get one n ≡ Some p → slice_get other n ≡ Some q → p.first ≡ q.first → EndIsBefore p.second q.second → ⊥
not_second logs one other joined joins n p q same at also first early =
    let found = joins.are.nearest n q p.second also (subst (λ (e : LogEnd). Fits logs e p.second) first (joined.are.fit n p at)) early in
    not_earlier logs one other joined.are n found.0 p.second same (second_of one n p at) found.1 found.2

pair_of : LogEnd → LogEnd → EndPair
pair_of a b = record { first = a; second = b }

same_pair : (logs : List Log) (one other : List EndPair) → IsJoined logs one → IsJoined logs other → (n : ℕ) (p q : EndPair) → AreSame one other n → slice_get one n ≡ Some p → slice_get other n ≡ Some q → p ≡ q
unfolding pair_of
same_pair logs one other joined joins n p q same at also = ap₂ pair_of first second where
  back : AreSame other one n
  back = turned one other n same

  of_firsts : (p.first ≡ q.first) ⊎ (EndIsBefore p.first q.first ⊎ EndIsBefore q.first p.first) → p.first ≡ q.first
  of_firsts (inl e) = e
  of_firsts (inr (inl early)) = absurd (not_first logs one other joined joins n p q same at also early)
  of_firsts (inr (inr early)) = absurd (not_first logs other one joins joined n q p back also at early)

  first : p.first ≡ q.first
  first = of_firsts (both_orders p.first q.first)

  of_seconds : (p.second ≡ q.second) ⊎ (EndIsBefore p.second q.second ⊎ EndIsBefore q.second p.second) → p.second ≡ q.second
  of_seconds (inl e) = e
  of_seconds (inr (inl early)) = absurd (not_second logs one other joined joins n p q same at also first early)
  of_seconds (inr (inr early)) = absurd (not_second logs other one joins joined n q p back also at (sym first) early)

  second : p.second ≡ q.second
  second = of_seconds (both_orders p.second q.second)

-- where one list ends, so does the other
no_more : (logs : List Log) (one other : List EndPair) → IsJoined logs one → IsJoined logs other → (n : ℕ) (p : EndPair) → AreSame one other n → slice_get one n ≡ Some p → slice_get other n ≡ None → ⊥
no_more logs one other joined joins n p same at none =
    by paired.0 paired.1 (cases_lt paired.0 n) where
      paired : IsPaired other p.first
      paired = joins.each p.first (fits_end logs p.first p.second (joined.are.fit n p at))

      by : (m : ℕ) → Has other m p.first → (m < n) ⊎ (n ≤ m) → ⊥
      by m has (inl lt) = not_earlier logs one other joined.are n m p.first same (first_of one n p at) lt has
      by m has (inr ge) = none-some (get_or other n p) (sym none ∙ slice_get-get_or other n p (omega (arith, ge, slice_get_within other m has.pair has.there)))

same_at : (logs : List Log) (one other : List EndPair) → IsJoined logs one → IsJoined logs other → (n : ℕ) → AreSame one other n → (o r : Option EndPair) → slice_get one n ≡ o → slice_get other n ≡ r → slice_get one n ≡ slice_get other n
same_at logs one other joined joins n same None None e h = e ∙ sym h
same_at logs one other joined joins n same (Some p) None e h = absurd (no_more logs one other joined joins n p same e h)
same_at logs one other joined joins n same None (Some q) e h = absurd (no_more logs other one joins joined n q (turned one other n same) h e)
same_at logs one other joined joins n same (Some p) (Some q) e h = e ∙ ap Some (same_pair logs one other joined joins n p q same e h) ∙ sym h

one_further : (logs : List Log) (one other : List EndPair) → IsJoined logs one → IsJoined logs other → (n : ℕ) → AreSame one other n → AreSame one other (suc n)
unfolding AreSame
one_further logs one other joined joins n same k lt = by (cases_lt k n) where
  by : (k < n) ⊎ (n ≤ k) → slice_get one k ≡ slice_get other k
  by (inl early) = same k early
  by (inr late) =
      let here : n ≡ k = omega (arith, lt, late) in
      subst (λ (m : ℕ). slice_get one m ≡ slice_get other m) here (same_at logs one other joined joins n same (slice_get one n) (slice_get other n) refl refl)

all_same : (logs : List Log) (one other : List EndPair) → IsJoined logs one → IsJoined logs other → (n : ℕ) → AreSame one other n
unfolding AreSame
all_same logs one other joined joins zero = λ k lt. absurd (omega (arith, lt))
all_same logs one other joined joins (suc n) = one_further logs one other joined joins n (all_same logs one other joined joins n)

list_same : (xs ys : List EndPair) → ((k : ℕ) → slice_get xs k ≡ slice_get ys k) → xs ≡ ys
list_same [] [] same = refl
list_same [] (y ∷ ys) same = absurd (none-some y (same 0))
list_same (x ∷ xs) [] same = absurd (none-some x (sym (same 0)))
list_same (x ∷ xs) (y ∷ ys) same = ap₂ (λ (z : EndPair) (zs : List EndPair). z ∷ zs) (same_Some x y (same 0)) (list_same xs ys (λ k. same (suc k)))

pub only_pairs : (logs : List Log) (pairs others : List EndPair) → IsJoined logs pairs → IsJoined logs others → pairs ≡ others
unfolding AreSame
only_pairs logs pairs others joined joins = list_same pairs others (λ k. all_same logs pairs others joined joins (suc k) k (omega arith))
