-- Turns that took all records of findings' logs, and the row of records that their order takes.
use Rattle.std.proofs.Common.{◌≡◌, inl, inr, refl, sym, ◌∙◌, ap, subst, ℕ, ◌+◌, ◌≤◌, ◌==◌, List, [], ◌∷◌, length, map, true, Option, Some, None, Ok, option_map, slice_get, arith, eqb-true}
use Rattle.std.specs.List.{cons_option}
use Rattle.std.specs.Prelude.{Contains}
use Rattle.std.proofs.lemmas.Bool.{cases_Bool, eq-eqb}
use Rattle.agree.proofs.Points.{tails}
use Rattle.call_trace.proofs.Sharing.{IsStored, stored_at, found_in}
use Rattle.call_trace.proofs.Taking.{steps_own, steps_other}
use Rattle.call_trace.specs.Findings.{logs_of}
use Rattle.call_trace.specs.Taking.{next_record, steps_counted_by, taken_by}
use Rattle.call_trace.specs.Types.{DecodedRecord}
use Rattle.turn_taking.specs.Turns.{Turns}
use Rattle.vat_log.specs.Log.{Log}
use Rattle.vat_log.specs.declared.body.Body.{Body}
use Rattle.vat_rules.specs.Audit.{Found, reads_within}
use Rattle.vat_rules.specs.Events.{event_of}
use Rattle.call_order.specs.Glue.Counts.{turns_counted}
use Rattle.call_order.specs.Glue.Reached.{AreRead}
use Rattle.call_order.proofs.Turning.{vats_of, counted_own, counted_other, BeginsWith, begins_before, stands_there}

-- ---- each turn takes a record

no_more : (findings : List Found) (steps : List ℕ) → length (map (λ r. r.0) (taken_by findings steps)) ≤ length steps
no_more findings [] = omega arith
no_more findings (v ∷ steps) = at (next_record findings steps v) (no_more findings steps)
  where
    at : (o : Option DecodedRecord) → length (map (λ r. r.0) (taken_by findings steps)) ≤ length steps → length (map (λ r. r.0) (cons_option (option_map (λ e. (v, e)) o) (taken_by findings steps))) ≤ length (v ∷ steps)
    at None h = omega (arith, h)
    at (Some e) h = omega (arith, h)

pub takes_one : (findings : List Found) (steps : List ℕ) (v : ℕ) → map (λ r. r.0) (taken_by findings (v ∷ steps)) ≡ v ∷ steps → (e : DecodedRecord) × (next_record findings steps v ≡ Some e)
takes_one findings steps v each = at (next_record findings steps v) refl each
  where
    at : (o : Option DecodedRecord) → next_record findings steps v ≡ o → map (λ r. r.0) (cons_option (option_map (λ e. (v, e)) o) (taken_by findings steps)) ≡ v ∷ steps → (e : DecodedRecord) × (next_record findings steps v ≡ Some e)
    at None none h = absurd (let longer : length (map (λ r. r.0) (taken_by findings steps)) ≡ length (v ∷ steps) = ap length h in omega (arith, longer, no_more findings steps))
    at (Some e) is h = (e, is)

-- the record that a step takes, and that the steps before take one each
pub record IsOneMore (findings : List Found) (steps : List ℕ) (v : ℕ) : Type 0 where
  pub event : DecodedRecord
  pub row : taken_by findings (v ∷ steps) ≡ (v, event) ∷ taken_by findings steps
  pub stored : IsStored findings v steps event
  pub rest : map (λ r. r.0) (taken_by findings steps) ≡ steps

pub one_more : (findings : List Found) (steps : List ℕ) (v : ℕ) → map (λ r. r.0) (taken_by findings (v ∷ steps)) ≡ v ∷ steps → IsOneMore findings steps v
one_more findings steps v each =
    let one = takes_one findings steps v each in
    let longer : taken_by findings (v ∷ steps) ≡ (v, one.0) ∷ taken_by findings steps = ap (λ o. cons_option (option_map (λ e. (v, e)) o) (taken_by findings steps)) one.1 in
    record { event = one.0; row = longer; stored = stored_at findings v steps one.0 one.1; rest = tails (sym (ap (map (λ r. r.0)) longer) ∙ each) }

-- as many steps of a vat as turns
pub as_many_turns : (v : ℕ) (turns : Turns) → steps_counted_by v (vats_of turns) ≡ turns_counted v turns
as_many_turns v [] = refl
as_many_turns v (turn ∷ turns) = elim (cases_Bool (turn.0 == v)) [
  | inl own ↦ steps_own v turn.0 (vats_of turns) (eqb-true turn.0 v own) ∙ ap (λ n. n + 1) (as_many_turns v turns) ∙ sym (counted_own v turn turns own)
  | inr apart ↦ steps_other v turn.0 (vats_of turns) apart ∙ as_many_turns v turns ∙ sym (counted_other v turn turns apart)
]

-- ---- the row is of the turns' records

-- findings' logs begin with the records of these turns
abbrev Begin : List Found → Turns → Type 0
Begin findings turns = (log : Log) → Contains (logs_of findings) log → BeginsWith log.records log.vat turns

pub are_read : (findings : List Found) (turns : Turns) → Begin findings turns → map (λ r. r.0) (taken_by findings (vats_of turns)) ≡ vats_of turns → AreRead (taken_by findings (vats_of turns)) turns
are_read findings [] begin each = tt
are_read findings (turn ∷ turns) begin each =
    let v = turn.0 in
    let one = one_more findings (vats_of turns) v each in
    let f = one.stored.finding in
    let at = found_in v findings f one.stored.found in
    let own : (v == f.log.vat) ≡ true = eq-eqb v f.log.vat (sym at.0) in
    let stands : slice_get f.log.records (steps_counted_by v (vats_of turns)) ≡ Some turn.1 =
    ap (slice_get f.log.records) (as_many_turns v turns ∙ ap (λ u. turns_counted u turns) (sym at.0)) ∙ stands_there f.log.records f.log.vat turn turns own (begin f.log at.2) in
    let same : one.stored.stored ≡ turn.1 = some_same (sym one.stored.there ∙ stands) in
    let rest = are_read findings turns (λ log there. begins_before log.records log.vat turn turns (begin log there)) one.rest in
    subst (λ row. AreRead row (turn ∷ turns)) (sym one.row) (refl, (reads_within f.limits, subst (λ b. event_of (reads_within f.limits) b ≡ Ok one.event) same one.stored.reads), rest)
  where
    some_same : {x y : Body} → Some x ≡ Some y → x ≡ y
    some_same e = cc
