-- What visits cost together decides whether a reading ends as it does or is too much.
use Rattle.std.proofs.Common.{◌≡◌, ℕ, ◌+◌, ◌-◌, ◌<◌, ◌≤◌, Result, Ok, Err, refl, sym, ap, subst, ◌∙◌, arith, inl, inr}
use Rattle.std.proofs.lemmas.Bool.{cases_lt, lt-ltb, le-ltb}
use Rattle.cap_reader.specs.declared.read_error.ReadError.{ReadError}
use Rattle.cap_reader.specs.declared.read_error.ReadError.TheVariants as errors
use Rattle.cap_reader.specs.Reading.{Reading, done, fault, visit, pay_for, run, price, ending, RunsInMemory, IsTooMuch}

pub affordable : {E A : Type 0} (too_much : E) (reading : Reading E A) (words : ℕ) → price reading ≤ words → pay_for too_much reading words ≡ (ending reading, words - price reading)
unfolding pay_for price ending
affordable too_much (done value) words le = let same : words - 0 ≡ words = omega arith in rw same refl
affordable too_much (fault e) words le = let same : words - 0 ≡ words = omega arith in rw same refl
affordable too_much (visit cost rest) words le =
    let same : words - cost - price rest ≡ words - (cost + price rest) = omega arith in
    rw (le-ltb words cost (omega arith), affordable too_much rest (words - cost) (omega arith), same) refl

pub too_dear : {E A : Type 0} (too_much : E) (reading : Reading E A) (words : ℕ) → words < price reading → (pay_for too_much reading words).0 ≡ Err too_much
unfolding pay_for price
too_dear too_much (done value) words lt = absurd (omega arith)
too_dear too_much (fault e) words lt = absurd (omega arith)
too_dear too_much (visit cost rest) words lt =
    elim (cases_lt words cost) [
      | inl few ↦ rw (lt-ltb words cost few) refl
      | inr enough ↦ rw (le-ltb words cost enough) (too_dear too_much rest (words - cost) (omega arith))
    ]

pub err_ok : {E A : Type 0} (d : E) (v : A) (l k : ℕ) → ◌≡◌ {A = Result A E × ℕ} (Err d, l) (Ok v, k) → ⊥
err_ok {E} {A} d v l k h = let e : ◌≡◌ {A = Result A E} (Err d) (Ok v) = ap (λ (r : Result A E × ℕ). r.0) h in cc

pub ends_so : {E A : Type 0} (too_much : E) (reading : Reading E A) (words left : ℕ) (value : A) → pay_for too_much reading words ≡ (Ok value, left) → ending reading ≡ Ok value
unfolding pay_for ending
ends_so {E} {A} too_much (done v) words left value e = ap (λ (r : Result A E × ℕ). r.0) e
ends_so too_much (fault d) words left value e = absurd (err_ok d value words left e)
ends_so too_much (visit cost rest) words left value e =
    elim (cases_lt words cost) [
      | inl few ↦ absurd (err_ok too_much value words left (rw (lt-ltb words cost few) at e))
      | inr enough ↦ ends_so too_much rest (words - cost) left value (rw (le-ltb words cost enough) at e)
    ]

-- ---- the same of what a call answers

pub affordable_by : {X : Type 0} (result : Result X ReadError) (left words : ℕ) (reading : Reading ReadError X) → RunsInMemory (λ x. x) result left (run reading words) → price reading ≤ words → RunsInMemory (λ x. x) result left (ending reading, words - price reading)
affordable_by {X} result left words reading h le =
    let P : Result X ReadError × ℕ → Type 0 = λ ran. RunsInMemory (λ (x : X). x) result left ran in subst P (affordable errors.TooMuch reading words le) h

ok_err : {X : Type 0} (x : X) (e : ReadError) → ◌≡◌ {A = Result X ReadError} (Ok x) (Err e) → ⊥
ok_err x e h = cc

same_err : {X : Type 0} (d e : ReadError) → ◌≡◌ {A = Result X ReadError} (Err d) (Err e) → d ≡ e
same_err d e h = cc

module _ {X : Type 0} (left : ℕ) (ran : Result X ReadError × ℕ) (e : ran.0 ≡ Err errors.TooMuch) where
  is_it : (d : ReadError) → ran ≡ (Err d, left) → d ≡ errors.TooMuch
  is_it d h = same_err {X = X} d errors.TooMuch (sym (ap (λ (r : Result X ReadError × ℕ). r.0) h) ∙ e)

  only_too_much : (result : Result X ReadError) → RunsInMemory (λ x. x) result left ran → IsTooMuch result
  only_too_much (Ok x) h = absurd (ok_err x errors.TooMuch (sym (ap (λ (r : Result X ReadError × ℕ). r.0) h) ∙ e))
  only_too_much (Err errors.TooMuch) h = tt
  only_too_much (Err errors.OutOfMemory) h = tt
  only_too_much (Err errors.OutOfSegment) h = let d = is_it errors.OutOfSegment h in absurd cc
  only_too_much (Err errors.NoSegment) h = let d = is_it errors.NoSegment h in absurd cc
  only_too_much (Err errors.BadPad) h = let d = is_it errors.BadPad h in absurd cc
  only_too_much (Err errors.WrongKind) h = let d = is_it errors.WrongKind h in absurd cc
  only_too_much (Err errors.NoZero) h = let d = is_it errors.NoZero h in absurd cc
  only_too_much (Err errors.Reserved) h = let d = is_it errors.Reserved h in absurd cc
  only_too_much (Err errors.TooDeep) h = let d = is_it errors.TooDeep h in absurd cc

pub too_dear_by : {X : Type 0} (result : Result X ReadError) (left words : ℕ) (reading : Reading ReadError X) → RunsInMemory (λ x. x) result left (run reading words) → words < price reading → IsTooMuch result
too_dear_by result left words reading h lt =
    only_too_much left (run reading words) (too_dear errors.TooMuch reading words lt) result h
