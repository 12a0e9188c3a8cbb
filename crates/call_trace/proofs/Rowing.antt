-- A row of records that takes its steps one by one, and what is kept of each vat by then.
use Rattle.std.proofs.Common.{◌≡◌, refl, sym, ◌∙◌, ap, subst, ℕ, ◌==◌, List, [], ◌∷◌, ◌++◌, map, reverse, true, false, Option, Some, None, option_and_then, option_map}
use Rattle.std.proofs.lemmas.List.{reverse-append}
use Rattle.agree.specs.Rows.{Row, log_of_vat}
use Rattle.decoded_records.specs.Past.{Past}
use Rattle.call_trace.specs.declared.records.vat_ledger.VatLedger.{VatLedger}
use Rattle.call_trace.specs.Types.{DecodedRecord, Host, Vow, Fulfil, Break, Make, Field, Deliver, Answer, AnswerBy, Fault, Wire, Step}
use Rattle.call_trace.specs.Naming.{naming}
use Rattle.call_trace.specs.Part.{result_named, promise_in}
use Rattle.call_trace.specs.Said.{all_there}
use Rattle.call_trace.specs.Running.{coming_next, step_received, step_of, steps_by, steps_of_row}
use Rattle.call_trace.specs.Glue.Ledgers.{IsKept, IsTaken}
use Rattle.call_trace.specs.Glue.RunBuilder.{IsKeptAt}
use Rattle.call_trace.proofs.Carrying.{log_here, log_there, steps_here, steps_there}
use Rattle.call_trace.proofs.Keeping.{kept_beside}
use Rattle.run_model.specs.Steps.{vat_of}
use Rattle.run_model.specs.declared.cap.Cap.TheVariants as cap
use Rattle.run_model.specs.declared.step.Step.TheVariants as step
use Rattle.decoded_records.specs.Views.{view_of_reference}

-- ---- whose a step is

by_some : (v : ℕ) (a s : Step) → vat_of a ≡ v → ◌≡◌ {A = Option Step} (Some a) (Some s) → vat_of s ≡ v
by_some v a s own e = let same : a ≡ s = cc in ap vat_of (sym same) ∙ own

by_map : {A : Type 0} (v : ℕ) (f : A → Step) (s : Step) → ((x : A) → vat_of (f x) ≡ v) → (o : Option A) → option_map f o ≡ Some s → vat_of s ≡ v
by_map v f s own None e = absurd (let none : ⊥ = cc in none)
by_map v f s own (Some x) e = by_some v (f x) s (own x) e

by_then : {A : Type 0} (v : ℕ) (g : A → Option Step) (s : Step) → ((x : A) → g x ≡ Some s → vat_of s ≡ v) → (o : Option A) → option_and_then g o ≡ Some s → vat_of s ≡ v
by_then v g s own None e = absurd (let none : ⊥ = cc in none)
by_then v g s own (Some x) e = own x e

-- the step of a record is its vat's
pub own_vat : (v : ℕ) (es : Past) (own before : List Step) (e : DecodedRecord) (s : Step) → step_of v es own before e ≡ Some s → vat_of s ≡ v
own_vat v es own before (Host r object) s is = by_some v (step.Host v object) s refl is
own_vat v es own before (Vow r) s is = by_some v (step.Vow v r) s refl is
own_vat v es own before (Fulfil r to) s is =
    by_then v _ s (λ p. by_map v (λ c. step.Fulfil v p c) s (λ c. refl) _) (promise_in (view_of_reference es r)) is
own_vat v es own before (Break r) s is = by_map v (λ p. step.Break v p) s (λ p. refl) (promise_in (view_of_reference es r)) is
own_vat v es own before (Make c r interface method) s is = by_map v (λ to. step.Make v c to r interface method) s (λ to. refl) _ is
own_vat v es own before (Field r c path) s is = by_map v (λ name. step.Name v (cap.Field name path)) s (λ name. refl) _ is
own_vat v es own before (Deliver c object) s is = by_map v (λ name. step.Deliver v name object) s (λ name. refl) _ is
own_vat v es own before (Answer c results) s is =
    let names = naming v (Answer c results ∷ es) (step.Host v 0 ∷ own) in
    by_then v _ s (λ name. by_map v (λ caps. step.Answer v name caps) s (λ caps. refl) (all_there (map (result_named names es) results))) (names.call c) is
own_vat v es own before (AnswerBy c by) s is =
    let names = naming v (AnswerBy c by ∷ es) (step.Host v 0 ∷ own) in
    by_then v _ s (λ name. by_map v (λ other. step.AnswerBy v name other) s (λ other. refl) (names.call by)) (names.call c) is
own_vat v es own before (Fault c) s is = by_map v (λ name. step.Fault v name) s (λ name. refl) _ is
own_vat v es own before (Wire true k c references m) s is = by_map v (λ sent. step.Send v k sent) s (λ sent. refl) _ is
own_vat v es own before (Wire false k c references m) s is =
    by_then v (step_received v es own (Wire false k c references m) k references) s
    (λ message. by_map v (λ bound. step.Receive v k message bound) s (λ bound. refl) _) (coming_next v k before) is

-- ---- one record more of a row

pub row_more : (v : ℕ) (e : DecodedRecord) (row : Row) (before : List Step) (s : Step) → steps_of_row row ≡ Some before →
    step_of v (log_of_vat v row) (steps_by v before) before e ≡ Some s → steps_of_row ((v, e) ∷ row) ≡ Some (s ∷ before)
row_more v e row before s so_far is =
    ap (option_and_then (λ before. option_map (λ s. s ∷ before) (step_of v (log_of_vat v row) (steps_by v before) before e))) so_far ∙ ap (option_map (λ s. s ∷ before)) is

pub row_none : (v : ℕ) (e : DecodedRecord) (row : Row) (before : List Step) → steps_of_row row ≡ Some before →
    step_of v (log_of_vat v row) (steps_by v before) before e ≡ None → steps_of_row ((v, e) ∷ row) ≡ None
row_none v e row before so_far is =
    ap (option_and_then (λ before. option_map (λ s. s ∷ before) (step_of v (log_of_vat v row) (steps_by v before) before e))) so_far ∙ ap (option_map (λ s. s ∷ before)) is

-- a row without steps goes on without
pub row_stuck : (later row : Row) → steps_of_row row ≡ None → steps_of_row (later ++ row) ≡ None
row_stuck [] row none = none
row_stuck (r ∷ later) row none =
    ap (option_and_then (λ before. option_map (λ s. s ∷ before) (step_of r.0 (log_of_vat r.0 (later ++ row)) (steps_by r.0 before) before r.1))) (row_stuck later row none)

-- ---- what is kept of each vat

-- of the vat whose record took a step
pub kept_here : (v : ℕ) (e : DecodedRecord) (row : Row) (before taken : List Step) (new : VatLedger) → steps_of_row row ≡ Some before →
    IsTaken v (log_of_vat v row) e (steps_by v before) (step_of v (log_of_vat v row) (steps_by v before) before e) (reverse before) taken new →
    (s : Step) × (steps_of_row ((v, e) ∷ row) ≡ Some (s ∷ before)) × (step_of v (log_of_vat v row) (steps_by v before) before e ≡ Some s) × (taken ≡ reverse (s ∷ before)) × (vat_of s ≡ v) × IsKeptAt v ((v, e) ∷ row) (s ∷ before) new
kept_here v e row before taken new so_far t =
    let s = t.0 in
    let whose = own_vat v (log_of_vat v row) (steps_by v before) before e s t.1 in
    let turned : taken ≡ reverse (s ∷ before) = t.2 ∙ sym (reverse-append (s ∷ []) before) in
    let log : e ∷ log_of_vat v row ≡ log_of_vat v ((v, e) ∷ row) = sym (log_here v v e row refl) in
    let own : s ∷ steps_by v before ≡ steps_by v (s ∷ before) = sym (steps_here v s before whose) in (
      s,
      row_more v e row before s so_far t.1,
      t.1,
      turned,
      whose,
      subst (λ es. IsKept v es (steps_by v (s ∷ before)) (reverse (s ∷ before)) new) log
          (subst (λ steps. IsKept v (e ∷ log_of_vat v row) steps (reverse (s ∷ before)) new) own (subst (λ run. IsKept v (e ∷ log_of_vat v row) (s ∷ steps_by v before) run new) turned t.3)),
    )

-- and of every other
pub kept_there : (w v : ℕ) (e : DecodedRecord) (row : Row) (before : List Step) (s : Step) (ledger : VatLedger) → (v == w) ≡ false → vat_of s ≡ v →
    IsKeptAt w row before ledger → IsKeptAt w ((v, e) ∷ row) (s ∷ before) ledger
kept_there w v e row before s ledger apart whose kept =
    let log : log_of_vat w row ≡ log_of_vat w ((v, e) ∷ row) = sym (log_there w v e row apart) in
    let own : steps_by w before ≡ steps_by w (s ∷ before) = sym (steps_there w s before (ap (λ u. u == w) whose ∙ apart)) in
    let run : reverse before ++ s ∷ [] ≡ reverse (s ∷ before) = sym (reverse-append (s ∷ []) before) in
    subst (λ es. IsKept w es (steps_by w (s ∷ before)) (reverse (s ∷ before)) ledger) log
    (subst (λ steps. IsKept w (log_of_vat w row) steps (reverse (s ∷ before)) ledger) own
    (subst (λ steps. IsKept w (log_of_vat w row) (steps_by w before) steps ledger) run (kept_beside w (log_of_vat w row) (steps_by w before) (reverse before) s ledger kept)))
