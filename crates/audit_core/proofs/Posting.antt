-- A piece that is answered as missing is missing and claimed; where none is answered, none is missing.
use Rattle.std.proofs.Common.{◌≡◌, ℕ, zero, suc, ◌<◌, Bool, true, false, cond, List, [], ◌∷◌, length, get_or, Option, Some, None, refl, sym, ap, ◌∙◌, subst, inl, inr, arith}
use Rattle.std.specs.Prelude.{is_none, position, count_by, slice_get, slice_set}
use Rattle.std.specs.List.{position_or_len}
use Rattle.std.proofs.lemmas.Bool.{cases_lt, lt-ltb}
use Rattle.std.proofs.lemmas.Option.{slice_get-get_or}
use Rattle.std.proofs.lemmas.List.Quantifiers.{position-Some}
use Rattle.std.proofs.lemmas.List.Sums.{fails_before_first, sum_by-cons}
use Rattle.case_book.specs.Pieces.{pieces_of}
use Rattle.case_book.specs.Books.{Kept, IsBook, IsMissing, IsClaimed, least_missing, missing_in, with_claim}
use Rattle.case_book.specs.declared.piece_finding.Finding.{Finding}

-- ---- the piece that is missing

empty_is : {X : Type 0} (o : Option X) → is_none o ≡ true → o ≡ None
empty_is None e = refl
empty_is (Some x) e = absurd cc

written : (xs : List Bool) (i : ℕ) → i < length (slice_set xs i true) → slice_get (slice_set xs i true) i ≡ Some true
written [] i lt = absurd (omega arith)
written (x ∷ xs) zero lt = refl
written (x ∷ xs) (suc i) lt = written xs i (omega arith)

missing_there : (places : List (Option Finding)) (number : ℕ) → position is_none places ≡ Some number → (number < length places) × (slice_get places number ≡ Some None)
missing_there places number at =
    let first = position-Some is_none places number None at in
    (first.0, slice_get-get_or places number None first.0 ∙ ap Some (empty_is (get_or places number None) first.1))

-- the piece that is answered is missing, and claimed from then on
pub missing_claimed : (old new : Kept) (number : ℕ) → IsBook new → new ≡ with_claim old (least_missing old) → Some number ≡ least_missing old → IsMissing new number × IsClaimed new number
missing_claimed old new number is after answer =
    let now : new ≡ with_claim old (Some number) = after ∙ ap (with_claim old) (sym answer) in
    let there = missing_there old.found number (sym answer) in
    let claims : length (slice_set old.claimed number true) ≡ length (pieces_of old.case) = (subst IsBook now is).claims in
    let places : length old.found ≡ length (pieces_of old.case) = (subst IsBook now is).places in
    let lt = there.0 in
    let within : number < length (slice_set old.claimed number true) = omega (arith, lt, claims, places) in
    (subst (λ (book : Kept). IsMissing book number) (sym now) there.1, subst (λ (book : Kept). IsClaimed book number) (sym now) (written old.claimed number within))

-- ---- where none is missing, all are posted

none_counted : (places : List (Option Finding)) → ((k : ℕ) → k < length places → is_none (get_or places k None) ≡ false) → count_by is_none places ≡ 0
none_counted [] fails = refl
none_counted (place ∷ places) fails =
    let first = fails 0 (omega arith) in
    let one : ◌≡◌ {A = ℕ} (cond (is_none place) 1 0) 0 = ap (λ (b : Bool). cond b 1 0) first in
    let all = sum_by-cons (λ (o : Option Finding). cond (is_none o) 1 0) place places in
    let rest = none_counted places (λ k lt. fails (suc k) (omega arith)) in
    omega (arith, one, all, rest)

not_none : (n : ℕ) → Some n ≡ None → ⊥
not_none n e = cc

none_found : (places : List (Option Finding)) → position is_none places ≡ None → count_by is_none places ≡ 0
none_found places none =
    elim (cases_lt (position_or_len is_none places) (length places)) [
      | inl lt ↦ absurd (
          let found : position is_none places ≡ Some (position_or_len is_none places) = rw (lt-ltb (position_or_len is_none places) (length places) lt) refl in
          not_none (position_or_len is_none places) (sym found ∙ none)
          )
      | inr ge ↦ none_counted places (λ k lt. fails_before_first is_none places k None (omega arith))
    ]

pub none_is_missing : (old new : Kept) → new ≡ with_claim old (least_missing old) → None ≡ least_missing old → 0 < missing_in new → ⊥
none_is_missing old new after none some =
    let same : new ≡ old = after ∙ ap (with_claim old) (sym none) in
    let zeroth = none_found old.found (sym none) in
    let count = ap missing_in same in
    omega (arith, some, zeroth, count)
