-- Reading numbers one after another, as a loop does.
use Rattle.std.proofs.Common.{◌≡◌, ℕ, suc, ◌+◌, ◌-◌, ◌<◌, ◌≤◌, List, [], ◌++◌, Result, Ok, Err, refl, sym, ap, ◌∙◌, append_assoc, arith}
use Rattle.std.proofs.lemmas.List.{append-nil}
use Rattle.cap_reader.specs.declared.read_error.ReadError.{ReadError}
use Rattle.cap_reader.specs.declared.read_error.ReadError.TheVariants as errors
use Rattle.cap_reader.specs.Reading.{Reading, done, and_then, pay_for, run, each, Refuses}
use Rattle.cap_reader.specs.Glue.{with_front}
use Rattle.cap_reader.proofs.Running.{going_on, run_then}

abbrev answered : {A : Type 0} → List A → ℕ → Result (List A) ReadError × ℕ
answered xs left = (Ok xs, left)

ok_is : {A : Type 0} (x y : List A) → ◌≡◌ {A = Result (List A) ReadError} (Ok x) (Ok y) → x ≡ y
ok_is x y e = cc

not_ok : {A : Type 0} (e : ReadError) (y : List A) → ◌≡◌ {A = Result (List A) ReadError} (Err e) (Ok y) → ⊥
not_ok e y h = cc

regroup : {A : Type 0} (front xs : List A) (rest : Result (List A) ReadError) (left : ℕ) → with_front front (going_on errors.TooMuch rest left (λ others. done (xs ++ others))) ≡ with_front (front ++ xs) (rest, left)
unfolding pay_for
regroup front xs (Ok others) left = ap (λ (all : List _). answered all left) (sym (append_assoc front xs others))
regroup front xs (Err e) left = refl

module _ {A : Type 0} (f : ℕ → Reading ReadError (List A)) where
  abbrev onwards : ℕ → ℕ → List A → Reading ReadError (List A)
  onwards i n first = and_then (each f (i + 1) n) (λ others. done (first ++ others))

  step : (front : List A) (i n words : ℕ) → with_front front (run (each f i (suc n)) words) ≡ with_front front (going_on errors.TooMuch (run (f i) words).0 (run (f i) words).1 (onwards i n))
  unfolding each
  step front i n words = ap (with_front front) (run_then errors.TooMuch (f i) (onwards i n) words)

  rest : (front xs : List A) (i n left : ℕ) → with_front front (run (onwards i n xs) left) ≡ with_front (front ++ xs) (run (each f (i + 1) n) left)
  rest front xs i n left =
      ap (with_front front) (run_then errors.TooMuch (each f (i + 1) n) (λ others. done (xs ++ others)) left) ∙ regroup front xs (run (each f (i + 1) n) left).0 (run (each f (i + 1) n) left).1

  after : (front next : List A) (i n left l : ℕ) (first : Result (List A) ReadError) → with_front front (first, l) ≡ (Ok next, left) → with_front front (going_on errors.TooMuch first l (onwards i n)) ≡ with_front next (run (each f (i + 1) n) left)
  after front next i n left l (Ok xs) e =
      let all : front ++ xs ≡ next = ok_is (front ++ xs) next (ap (λ (p : Result (List A) ReadError × ℕ). p.0) e) in
      let same : l ≡ left = ap (λ (p : Result (List A) ReadError × ℕ). p.1) e in
      rest front xs i n l ∙ ap (λ (k : ℕ). with_front (front ++ xs) (run (each f (i + 1) n) k)) same ∙ ap (λ (ys : List A). with_front ys (run (each f (i + 1) n) left)) all
  after front next i n left l (Err e) h =
      absurd (not_ok e next (ap (λ (p : Result (List A) ReadError × ℕ). p.0) h))

  -- one more was read
  pub goes_on : (front next : List A) (count i words left : ℕ) (total : Result (List A) ReadError × ℕ) → i < count → with_front front (run (f i) words) ≡ (Ok next, left)
      → with_front front (run (each f i (count - i)) words) ≡ total → with_front next (run (each f (i + 1) (count - (i + 1))) left) ≡ total
  goes_on front next count i words left total lt h so_far =
      let k : count - i ≡ suc (count - (i + 1)) = omega arith in
      let one : with_front front (run (each f i (count - i)) words) ≡ with_front next (run (each f (i + 1) (count - (i + 1))) left) = rw k (step front i (count - (i + 1)) words ∙ after front next i (count - (i + 1)) left (run (f i) words).1 (run (f i) words).0 h) in
      sym one ∙ so_far

  failed : (front : List A) (i n left l : ℕ) (e : ReadError) (first : Result (List A) ReadError) → Refuses e left (with_front front (first, l)) → Refuses e left (with_front front (going_on errors.TooMuch first l (onwards i n)))
  failed front i n left l e (Err d) p = p
  failed front i n left l errors.OutOfMemory (Ok xs) p = tt
  failed front i n left l errors.OutOfSegment (Ok xs) p = absurd (not_ok errors.OutOfSegment (front ++ xs) (sym (ap (λ (r : Result (List A) ReadError × ℕ). r.0) p)))
  failed front i n left l errors.NoSegment (Ok xs) p = absurd (not_ok errors.NoSegment (front ++ xs) (sym (ap (λ (r : Result (List A) ReadError × ℕ). r.0) p)))
  failed front i n left l errors.BadPad (Ok xs) p = absurd (not_ok errors.BadPad (front ++ xs) (sym (ap (λ (r : Result (List A) ReadError × ℕ). r.0) p)))
  failed front i n left l errors.WrongKind (Ok xs) p = absurd (not_ok errors.WrongKind (front ++ xs) (sym (ap (λ (r : Result (List A) ReadError × ℕ). r.0) p)))
  failed front i n left l errors.NoZero (Ok xs) p = absurd (not_ok errors.NoZero (front ++ xs) (sym (ap (λ (r : Result (List A) ReadError × ℕ). r.0) p)))
  failed front i n left l errors.Reserved (Ok xs) p = absurd (not_ok errors.Reserved (front ++ xs) (sym (ap (λ (r : Result (List A) ReadError × ℕ). r.0) p)))
  failed front i n left l errors.TooDeep (Ok xs) p = absurd (not_ok errors.TooDeep (front ++ xs) (sym (ap (λ (r : Result (List A) ReadError × ℕ). r.0) p)))
  failed front i n left l errors.TooMuch (Ok xs) p = absurd (not_ok errors.TooMuch (front ++ xs) (sym (ap (λ (r : Result (List A) ReadError × ℕ). r.0) p)))

  -- one wasn't read
  pub ends : (e : ReadError) (front : List A) (count i words left : ℕ) (total : Result (List A) ReadError × ℕ) → i < count → Refuses e left (with_front front (run (f i) words))
      → with_front front (run (each f i (count - i)) words) ≡ total → Refuses e left total
  ends e front count i words left total lt h so_far =
      let k : count - i ≡ suc (count - (i + 1)) = omega arith in
      let one : with_front front (going_on errors.TooMuch (run (f i) words).0 (run (f i) words).1 (onwards i (count - (i + 1)))) ≡ total = sym (rw k (step front i (count - (i + 1)) words)) ∙ so_far in
      rw one at (failed front i (count - (i + 1)) left (run (f i) words).1 e (run (f i) words).0 h)

  -- all were read
  pub is_done : (front : List A) (count i words : ℕ) (total : Result (List A) ReadError × ℕ) → count ≤ i → with_front front (run (each f i (count - i)) words) ≡ total → total ≡ (Ok front, words)
  unfolding each pay_for
  is_done front count i words total le so_far =
      let k : count - i ≡ 0 = omega arith in
      let one : with_front front (run (each f i (count - i)) words) ≡ (Ok front, words) = rw k (ap (λ (xs : List A). answered xs words) (append-nil front)) in
      sym so_far ∙ one

-- none was read yet
pub no_front : {A : Type 0} (ran : Result (List A) ReadError × ℕ) → with_front [] ran ≡ ran
no_front (Ok found, left) = refl
no_front (Err e, left) = refl
