-- Turns: how many are a vat's, and what records it took.
use Rattle.std.proofs.Common.{◌≡◌, refl, sym, ◌∙◌, ap, ℕ, ◌+◌, ◌==◌, List, [], ◌∷◌, ◌++◌, length, map, reverse, true, false, cond, Some, None, if◌then◌else◌, slice_get, arith, inl, inr}
use Rattle.std.specs.List.{cons_option, filter_map}
use Rattle.std.proofs.lemmas.Bool.{cases_Bool}
use Rattle.std.proofs.lemmas.List.{append_assoc, length-append, reverse-append}
use Rattle.std.proofs.lemmas.List.Sums.{sum_by-cons}
use Rattle.turn_taking.specs.Turns.{Turns, of_vat, records_taken}
use Rattle.vat_log.specs.declared.body.Body.{Body}
use Rattle.call_order.specs.Glue.Counts.{turns_counted}

-- the vats of turns, the newest first
abbrev pub vats_of : Turns → List ℕ
vats_of turns = map (λ turn. turn.0) turns

-- ---- one turn more

pub counted_own : (v : ℕ) (turn : ℕ × Body) (turns : Turns) → (turn.0 == v) ≡ true → turns_counted v (turn ∷ turns) ≡ turns_counted v turns + 1
counted_own v turn turns own =
    let one : ◌≡◌ {A = ℕ} (cond (turn.0 == v) 1 0) 1 = ap (λ b. cond b 1 0) own in
    omega (arith, sum_by-cons (λ (t : ℕ × Body). cond (t.0 == v) 1 0) turn turns, one)

pub counted_other : (v : ℕ) (turn : ℕ × Body) (turns : Turns) → (turn.0 == v) ≡ false → turns_counted v (turn ∷ turns) ≡ turns_counted v turns
counted_other v turn turns apart =
    let none : ◌≡◌ {A = ℕ} (cond (turn.0 == v) 1 0) 0 = ap (λ b. cond b 1 0) apart in
    omega (arith, sum_by-cons (λ (t : ℕ × Body). cond (t.0 == v) 1 0) turn turns, none)

pub records_own : (v : ℕ) (turn : ℕ × Body) (turns : Turns) → (turn.0 == v) ≡ true → records_taken v (turn ∷ turns) ≡ records_taken v turns ++ turn.1 ∷ []
records_own v turn turns own =
    ap (λ b. reverse (cons_option (if b then Some turn.1 else None) (filter_map (of_vat v) turns))) own ∙ reverse-append (turn.1 ∷ []) (filter_map (of_vat v) turns)

pub records_other : (v : ℕ) (turn : ℕ × Body) (turns : Turns) → (turn.0 == v) ≡ false → records_taken v (turn ∷ turns) ≡ records_taken v turns
records_other v turn turns apart = ap (λ b. reverse (cons_option (if b then Some turn.1 else None) (filter_map (of_vat v) turns))) apart

-- ---- how many

-- a vat took as many records as turns
pub as_many_records : (v : ℕ) (turns : Turns) → length (records_taken v turns) ≡ turns_counted v turns
as_many_records v [] = refl
as_many_records v (turn ∷ turns) = elim (cases_Bool (turn.0 == v)) [
  | inl own ↦
      let longer = ap length (records_own v turn turns own) ∙ length-append (records_taken v turns) (turn.1 ∷ []) in
      omega (arith, longer, counted_own v turn turns own, as_many_records v turns)
  | inr apart ↦ ap length (records_other v turn turns apart) ∙ as_many_records v turns ∙ sym (counted_other v turn turns apart)
]

-- ---- the beginning of a log

-- records begin with those that a vat took
abbrev pub BeginsWith : List Body → ℕ → Turns → Type 0
BeginsWith records v turns = (rest : List Body) × (records ≡ records_taken v turns ++ rest)

pub begins_before : (records : List Body) (v : ℕ) (turn : ℕ × Body) (turns : Turns) → BeginsWith records v (turn ∷ turns) → BeginsWith records v turns
begins_before records v turn turns begins = elim (cases_Bool (turn.0 == v)) [
  | inl own ↦ (turn.1 ∷ begins.0, begins.1 ∙ ap (λ l. l ++ begins.0) (records_own v turn turns own) ∙ append_assoc (records_taken v turns) (turn.1 ∷ []) begins.0)
  | inr apart ↦ (begins.0, begins.1 ∙ ap (λ l. l ++ begins.0) (records_other v turn turns apart))
]

at_seam : {A : Type 0} (xs : List A) (x : A) (ys : List A) → slice_get (xs ++ x ∷ ys) (length xs) ≡ Some x
at_seam [] x ys = refl
at_seam (y ∷ xs) x ys = at_seam xs x ys

-- the record of a turn stands there behind those of the turns before
pub stands_there : (records : List Body) (v : ℕ) (turn : ℕ × Body) (turns : Turns) → (turn.0 == v) ≡ true → BeginsWith records v (turn ∷ turns) → slice_get records (turns_counted v turns) ≡ Some turn.1
stands_there records v turn turns own begins =
    let all = begins.1 ∙ ap (λ l. l ++ begins.0) (records_own v turn turns own) ∙ append_assoc (records_taken v turns) (turn.1 ∷ []) begins.0 in
    ap (λ l. slice_get l (turns_counted v turns)) all ∙ ap (slice_get (records_taken v turns ++ turn.1 ∷ begins.0)) (sym (as_many_records v turns)) ∙ at_seam (records_taken v turns) turn.1 begins.0
