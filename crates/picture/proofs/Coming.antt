-- The connections of the frames that are under way to a vat: how many are on each.
use Rattle.std.proofs.Common.{◌≡◌, ◌∙◌, ℕ, zero, suc, ◌+◌, ◌<◌, ◌≤◌, Bool, true, false, not, ◌&&◌, cond, ◌==◌, nat_lt, List, [], ◌∷◌, length, get_or, Option, Some, None, is_some, refl, sym, ap, inl, inr, eq-eqb, arith}
use Rattle.std.specs.Prelude.{count_by, remove}
use Rattle.std.specs.List.{position_from}
use Rattle.std.proofs.lemmas.Bool.{cases_Bool, cond-true, cond-false, eqb-true, ltb-false, lt-ltb}
use Rattle.std.proofs.lemmas.List.Sums.{sum_by-cons, sum_by_push, sum_by-remove}
use Rattle.std.proofs.lemmas.Option.{none-some, same_Some}
use Rattle.picture.specs.Glue.Seats.{first_on, heard, is_coming, received_in, taken, without}

-- 1 for what is so
abbrev pub bit : Bool → ℕ
bit b = cond b 1 0

-- how many are on a connection
abbrev pub count_on : ℕ → List ℕ → ℕ
count_on connection coming = count_by (λ on. on == connection) coming

-- what passes so passes on a connection
abbrev pub passes_so : Bool → ℕ → Option (Bool × ℕ) → Bool
passes_so sent connection None = false
passes_so true connection (Some passage) = passage.0 && (passage.1 == connection)
passes_so false connection (Some passage) = not passage.0 && (passage.1 == connection)

-- what is sent so is sent to a vat, on a connection
abbrev pub hears : ℕ → ℕ → Option (ℕ × ℕ) → Bool
hears vat connection None = false
hears vat connection (Some sent) = (sent.0 == vat) && (sent.1 == connection)

pub plus_none : (a : ℕ) → a + 0 ≡ a
plus_none a = omega arith

module _ {X : Type 0} (p : X → Bool) where
  -- where a search ends
  found_from : (xs : List X) (n i : ℕ) (d : X) → position_from p n xs ≡ Some i → (j : ℕ) × (i ≡ n + j) × (j < length xs) × (p (get_or xs j d) ≡ true)
  found_from [] n i d is = absurd (none-some i is)
  found_from (x ∷ xs) n i d is =
      elim (cases_Bool (p x)) [
        | inl here ↦
            let at : n ≡ i = same_Some n i (sym (cond-true (p x) (Some n) (position_from p (n + 1) xs) here) ∙ is) in
            (zero, omega (arith, at), omega arith, here)
        | inr later ↦
            let more = found_from xs (n + 1) i d (sym (cond-false (p x) (Some n) (position_from p (n + 1) xs) later) ∙ is) in
            let at : i ≡ n + 1 + more.0 = more.1 in
            let within : more.0 < length xs = more.2 in
            (suc more.0, omega (arith, at), omega (arith, within), more.3)
      ]

  one_more : (a : ℕ) → true ≡ nat_lt 0 (1 + a)
  one_more a = sym (lt-ltb 0 (1 + a) (omega arith))

  none_more : (a b : ℕ) → a ≡ 0 + b → nat_lt 0 b ≡ nat_lt 0 a
  none_more a b is = let e : b ≡ a = omega (arith, is) in ap (nat_lt 0) e

  -- it finds one if there is one
  is_found : (xs : List X) (n : ℕ) → is_some (position_from p n xs) ≡ nat_lt 0 (count_by p xs)
  is_found [] n = refl
  is_found (x ∷ xs) n =
      elim (cases_Bool (p x)) [
        | inl here ↦
            ap is_some (cond-true (p x) (Some n) (position_from p (n + 1) xs) here) ∙ one_more (count_by p xs)
            ∙ ap (λ b. nat_lt 0 (bit b + count_by p xs)) (sym here) ∙ ap (nat_lt 0) (sym (sum_by-cons (λ y. bit (p y)) x xs))
        | inr later ↦
            ap is_some (cond-false (p x) (Some n) (position_from p (n + 1) xs) later) ∙ is_found xs (n + 1)
            ∙ none_more (count_by p (x ∷ xs)) (count_by p xs) (sum_by-cons (λ y. bit (p y)) x xs ∙ ap (λ b. bit b + count_by p xs) later)
      ]

-- one is on a connection, if their number says so
pub is_counted : (connection : ℕ) (coming : List ℕ) → is_coming coming connection ≡ nat_lt 0 (count_on connection coming)
is_counted connection coming = is_found (λ on. on == connection) coming 0

-- of the first of a list too
pub is_counted_first : (on : ℕ) (coming : List ℕ) → nat_lt 0 (count_on on (on ∷ coming)) ≡ true
is_counted_first on coming = sym (is_counted on (on ∷ coming)) ∙ ap is_some (cond-true (on == on) (Some 0) (position_from (λ other. other == on) (0 + 1) coming) (eq-eqb on on refl))

lt_same : (a b n : ℕ) → a ≡ b → a < n → b < n
lt_same a b n e lt = omega (arith, e, lt)

-- without the first on one connection there is one less on it, and as many on any other
without_first : (on connection : ℕ) (coming : List ℕ) (o : Option ℕ) → first_on on coming ≡ o → 0 < count_on on coming
    → count_on connection (without o coming) + bit (on == connection) ≡ count_on connection coming
without_first on connection coming None is some =
    let none : count_on on coming ≤ 0 = ltb-false 0 (count_on on coming) (sym (is_counted on coming) ∙ ap is_some is) in
    absurd (omega (arith, some, none))
without_first on connection coming (Some i) is some =
    let found = found_from (λ other. other == on) coming 0 i 0 is in
    let here : i ≡ 0 + found.0 = found.1 in
    let same : found.0 ≡ i = omega (arith, here) in
    let within : i < length coming = lt_same found.0 i (length coming) same found.2 in
    let at : get_or coming i 0 ≡ on = ap (λ k. get_or coming k 0) (sym same) ∙ eqb-true (get_or coming found.0 0) on found.3 in
    ap (λ k. count_on connection (remove coming i) + bit (k == connection)) (sym at) ∙ sum_by-remove (λ other. bit (other == connection)) coming i 0 within

taken_by : (connection : ℕ) (sent : Bool) (on : ℕ) (coming : List ℕ) → (passes_so false on (Some (sent, on)) ≡ true → 0 < count_on on coming)
    → count_on connection (taken (received_in (Some (sent, on))) coming) + bit (passes_so false connection (Some (sent, on))) ≡ count_on connection coming
taken_by connection true on coming some = plus_none (count_on connection coming)
taken_by connection false on coming some = without_first on connection coming (first_on on coming) refl (some (eq-eqb on on refl))

-- a frame that is received is under way no more
pub taken_on : (connection : ℕ) (passage : Option (Bool × ℕ)) (coming : List ℕ) → ((on : ℕ) → passes_so false on passage ≡ true → 0 < count_on on coming)
    → count_on connection (taken (received_in passage) coming) + bit (passes_so false connection passage) ≡ count_on connection coming
taken_on connection None coming some = plus_none (count_on connection coming)
taken_on connection (Some passage) coming some = taken_by connection passage.0 passage.1 coming (some passage.1)

-- a frame that is sent to the vat is under way
pub heard_on : (connection vat : ℕ) (sent : Option (ℕ × ℕ)) (coming : List ℕ)
    → count_on connection (heard vat sent coming) ≡ count_on connection coming + bit (hears vat connection sent)
heard_on connection vat None coming = sym (plus_none (count_on connection coming))
heard_on connection vat (Some sent) coming =
    elim (cases_Bool (sent.0 == vat)) [
      | inl here ↦ rw here (sum_by_push (λ on. bit (on == connection)) coming sent.1)
      | inr other ↦ rw other (sym (plus_none (count_on connection coming)))
    ]
