-- What an order takes of each log: so many of its records, in their order.
use Rattle.std.proofs.Common.{◌≡◌, refl, sym, ◌∙◌, ap, ap₂, ℕ, zero, suc, ◌+◌, ◌==◌, List, [], ◌∷◌, ◌++◌, take, reverse, Bool, true, false, cond, Option, Some, None, if◌then◌else◌, option_and_then, option_map, slice_get, arith, eqb-true, inl, inr}
use Rattle.std.specs.List.{cons_option, filter_map}
use Rattle.std.proofs.lemmas.List.{reverse-append}
use Rattle.std.proofs.lemmas.List.Sums.{sum_by-cons}
use Rattle.std.proofs.lemmas.Bool.{eq-eqb, cases_Bool}
use Rattle.agree.specs.Rows.{Row, log_of_vat}
use Rattle.call_trace.specs.Types.{DecodedRecord}
use Rattle.call_trace.specs.Named.{past_before}
use Rattle.call_trace.specs.Taking.{finding_of, event_in, record_in, steps_counted_by, next_record, taken_by}
use Rattle.vat_rules.specs.Audit.{Found}

-- ---- one record more of a log

cons_append : {A : Type 0} (o : Option A) (xs ys : List A) → cons_option o (xs ++ ys) ≡ cons_option o xs ++ ys
cons_append None xs ys = refl
cons_append (Some x) xs ys = refl

kept_in : {A B : Type 0} (f : A → Option B) (xs : List A) (n : ℕ) → filter_map f (take (suc n) xs) ≡ filter_map f (take n xs) ++ cons_option (option_and_then f (slice_get xs n)) []
kept_in f [] zero = refl
kept_in f [] (suc n) = refl
kept_in f (x ∷ xs) zero = refl
kept_in f (x ∷ xs) (suc n) = ap (λ l. cons_option (f x) l) (kept_in f xs n) ∙ cons_append (f x) (filter_map f (take n xs)) (cons_option (option_and_then f (slice_get xs n)) [])

reverse_last : {A : Type 0} (xs : List A) (o : Option A) → reverse (xs ++ cons_option o []) ≡ cons_option o (reverse xs)
reverse_last xs None = reverse-append xs []
reverse_last xs (Some x) = reverse-append xs (x ∷ [])

-- one more of a list's elements is kept, if it gives something
kept_more : {A B : Type 0} (f : A → Option B) (xs : List A) (n : ℕ) → reverse (filter_map f (take (n + 1) xs)) ≡ cons_option (option_and_then f (slice_get xs n)) (reverse (filter_map f (take n xs)))
kept_more f xs n =
    let one : n + 1 ≡ suc n = omega arith in
    ap (λ m. reverse (filter_map f (take m xs))) one ∙ ap reverse (kept_in f xs n) ∙ reverse_last (filter_map f (take n xs)) (option_and_then f (slice_get xs n))

-- one record more of a log
pub log_more : (f : Found) (n : ℕ) → past_before f (n + 1) ≡ cons_option (record_in f n) (past_before f n)
log_more f n = kept_more (event_in f) f.log.records n

-- ---- what an order takes of one log

-- one step more
pub steps_own : (v u : ℕ) (before : List ℕ) → u ≡ v → steps_counted_by v (u ∷ before) ≡ steps_counted_by v before + 1
steps_own v u before same =
    let one : ◌≡◌ {A = ℕ} (cond (u == v) 1 0) 1 = ap (λ b. cond b 1 0) (eq-eqb u v same) in
    omega (arith, sum_by-cons (λ u. cond (u == v) 1 0) u before, one)

pub steps_other : (v u : ℕ) (before : List ℕ) → (u == v) ≡ false → steps_counted_by v (u ∷ before) ≡ steps_counted_by v before
steps_other v u before apart =
    let none : ◌≡◌ {A = ℕ} (cond (u == v) 1 0) 0 = ap (λ b. cond b 1 0) apart in
    omega (arith, sum_by-cons (λ u. cond (u == v) 1 0) u before, none)

log_at : (v u : ℕ) (o : Option DecodedRecord) (row : Row) (b : Bool) → (u == v) ≡ b → log_of_vat v (cons_option (option_map (λ e. (u, e)) o) row) ≡ (if b then cons_option o (log_of_vat v row) else log_of_vat v row)
log_at v u None row true e = refl
log_at v u None row false e = refl
log_at v u (Some x) row true e = ap (λ b. cons_option (if b then Some x else None) (log_of_vat v row)) e
log_at v u (Some x) row false e = ap (λ b. cons_option (if b then Some x else None) (log_of_vat v row)) e

-- the next record, where the vat's finding is known
next_in : (findings : List Found) (before : List ℕ) (v : ℕ) (f : Found) → finding_of v findings ≡ Some f → next_record findings before v ≡ record_in f (steps_counted_by v before)
next_in findings before v f found = ap (λ o. option_and_then (λ g. record_in g (steps_counted_by v before)) o) found

taken_at : (findings : List Found) (v : ℕ) (f : Found) (u : ℕ) (before : List ℕ) (b : Bool) → finding_of v findings ≡ Some f → (u == v) ≡ b → log_of_vat v (taken_by findings before) ≡ past_before f (steps_counted_by v before)
    → log_of_vat v (taken_by findings (u ∷ before)) ≡ past_before f (steps_counted_by v (u ∷ before))
taken_at findings v f u before true found e so_far =
    let same : u ≡ v = eqb-true u v e in
    let next : next_record findings before u ≡ record_in f (steps_counted_by v before) = ap (λ w. next_record findings before w) same ∙ next_in findings before v f found in
    log_at v u (next_record findings before u) (taken_by findings before) true e ∙ ap₂ (λ o l. cons_option o l) next so_far ∙ sym (log_more f (steps_counted_by v before))
    ∙ ap (λ n. past_before f n) (sym (steps_own v u before same))
taken_at findings v f u before false found e so_far =
    log_at v u (next_record findings before u) (taken_by findings before) false e ∙ so_far ∙ ap (λ n. past_before f n) (sym (steps_other v u before e))

-- of a vat's log as many records are taken as steps are the vat's
pub log_taken : (findings : List Found) (v : ℕ) (f : Found) → finding_of v findings ≡ Some f → (steps : List ℕ) → log_of_vat v (taken_by findings steps) ≡ past_before f (steps_counted_by v steps)
log_taken findings v f found [] = refl
log_taken findings v f found (u ∷ before) = taken_at findings v f u before (u == v) found refl (log_taken findings v f found before)

-- of a vat without a finding nothing is taken
pub no_log : (findings : List Found) (v : ℕ) → finding_of v findings ≡ None → (turns : List ℕ) → log_of_vat v (taken_by findings turns) ≡ []
no_log findings v none [] = refl
no_log findings v none (u ∷ turns) = elim (cases_Bool (u == v)) [
  | inl own ↦
      let next : next_record findings turns u ≡ None =
      ap (λ w. next_record findings turns w) (eqb-true u v own) ∙ ap (λ o. option_and_then (λ f. record_in f (steps_counted_by v turns)) o) none in
      log_at v u (next_record findings turns u) (taken_by findings turns) true own ∙ ap (λ o. cons_option o (log_of_vat v (taken_by findings turns))) next ∙ no_log findings v none turns
  | inr apart ↦ log_at v u (next_record findings turns u) (taken_by findings turns) false apart ∙ no_log findings v none turns
]
