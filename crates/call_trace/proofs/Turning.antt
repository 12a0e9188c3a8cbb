-- The turns of an order, one further.
use Rattle.std.proofs.Common.{◌≡◌, refl, sym, ◌∙◌, ap, subst, ℕ, zero, suc, ◌+◌, ◌≤◌, ◌==◌, List, ◌∷◌, length, reverse, true, Option, Some, None, option_and_then, option_map, slice_get, arith, inl, inr, ◌⊎◌}
use Rattle.std.specs.Prelude.{IsSome}
use Rattle.std.specs.List.{cons_option, filter_map}
use Rattle.std.proofs.lemmas.List.{take_all, length-map, length-reverse}
use Rattle.std.proofs.lemmas.Option.{slice_get_past}
use Rattle.agree.specs.Rows.{Row, log_of_vat}
use Rattle.vat_log.specs.declared.body.Body.{Body}
use Rattle.vat_rules.specs.Audit.{Found, IsTrueOf}
use Rattle.vat_rules.specs.LogFacts.{Facts}
use Rattle.vat_rules.specs.Telling.{facts_of}
use Rattle.decoded_records.specs.Past.{Past}
use Rattle.call_trace.specs.declared.records.vat_ledger.VatLedger.{VatLedger}
use Rattle.call_trace.specs.declared.steps.run_builder.RunBuilder.{RunBuilder}
use Rattle.call_trace.specs.Findings.{is_good}
use Rattle.call_trace.specs.Named.{past_before}
use Rattle.call_trace.specs.Running.{steps_by as steps_of_vat, steps_of_row}
use Rattle.call_trace.specs.Taking.{finding_of, event_in, record_in, steps_counted_by, next_record, taken_by}
use Rattle.call_trace.specs.Glue.RunBuilder.{IsTrail, ComesNext, Comes}
use Rattle.call_trace.specs.Glue.Turns.{IsKeptOf, HasTurn, TakesTurn}
use Rattle.call_trace.specs.Types.{DecodedRecord, Step}
use Rattle.call_trace.proofs.Carrying.{log_here, log_there, steps_here, steps_there}
use Rattle.call_trace.proofs.Reading.{AllRecordsGood, records_good, good_more}
use Rattle.call_trace.proofs.Rowing.{kept_there}
use Rattle.call_trace.proofs.Taking.{log_taken}

-- ---- as many records of a log as are taken of it

past_long : (f : Found) → AllRecordsGood f → (n : ℕ) → n ≤ length f.log.records → length (past_before f n) ≡ n
past_long f all zero le = refl
past_long f all (suc n) le =
    let one : n + 1 ≡ suc n = omega arith in
    ap (λ m. length (past_before f m)) (sym one) ∙ ap length (good_more f n (all n (omega (arith, le)))) ∙ ap suc (past_long f all n (omega (arith, le)))

past_beyond : (f : Found) (n : ℕ) → length f.log.records ≤ n → past_before f n ≡ past_before f (length f.log.records)
past_beyond f n le = ap (λ bodies. filter_past bodies) (take_all n f.log.records le ∙ sym (take_all (length f.log.records) f.log.records (omega arith)))
  where
    filter_past : List Body → Past
    filter_past bodies = reverse (filter_map (event_in f) bodies)

within_or : (i n : ℕ) → (i ≤ n) ⊎ (n ≤ i)
within_or zero n = inl (omega arith)
within_or (suc i) zero = inr (omega arith)
within_or (suc i) (suc n) = up (within_or i n)
  where
    up : (i ≤ n) ⊎ (n ≤ i) → (suc i ≤ suc n) ⊎ (suc n ≤ suc i)
    up (inl l) = inl (omega (arith, l))
    up (inr l) = inr (omega (arith, l))

pub record IsCounted (f : Found) (n : ℕ) : Type 0 where
  pub record_at : record_in f (length (past_before f n)) ≡ record_in f n
  pub past : past_before f (length (past_before f n)) ≡ past_before f n

none_past : (f : Found) (n : ℕ) → length f.log.records ≤ n → record_in f n ≡ None
none_past f n le = ap (option_and_then (event_in f)) (slice_get_past f.log.records n le)

counted : (f : Found) → AllRecordsGood f → (n : ℕ) → IsCounted f n
counted f all n = at (within_or n (length f.log.records))
  where
    at : (n ≤ length f.log.records) ⊎ (length f.log.records ≤ n) → IsCounted f n
    at (inl le) = record { record_at = ap (record_in f) (past_long f all n le); past = ap (past_before f) (past_long f all n le) }
    at (inr le) =
        let long : length (past_before f n) ≡ length f.log.records = ap length (past_beyond f n le) ∙ past_long f all (length f.log.records) (omega arith) in
        record {
          record_at = ap (record_in f) long ∙ none_past f (length f.log.records) (omega arith) ∙ sym (none_past f n le);
          past = ap (past_before f) long ∙ sym (past_beyond f n le);
        }

-- what is kept of a vat knows its next record, and its facts
pub record IsNextOf (findings : List Found) (turns : List ℕ) (v : ℕ) (f : Found) (number : ℕ) : Type 0 where
  pub next : next_record findings turns v ≡ record_in f number
  pub past : past_before f number ≡ log_of_vat v (taken_by findings turns)

pub next_of : (findings : List Found) (turns : List ℕ) (v : ℕ) (f : Found) (number : ℕ) → IsTrueOf f.log f.limits f.outcome → is_good f.outcome ≡ true → finding_of v findings ≡ Some f →
    number ≡ length (log_of_vat v (taken_by findings turns)) → IsNextOf findings turns v f number
next_of findings turns v f number true_of good found many =
    let log = log_taken findings v f found turns in
    let long : number ≡ length (past_before f (steps_counted_by v turns)) = many ∙ ap length log in
    let c = counted f (records_good f true_of good) (steps_counted_by v turns) in
    record {
      next = ap (λ o. option_and_then (λ (g : Found). record_in g (steps_counted_by v turns)) o) found ∙ sym c.record_at ∙ ap (record_in f) (sym long);
      past = ap (past_before f) long ∙ c.past ∙ sym log;
    }

-- ---- a turn

pub skips : (findings : List Found) (turns : List ℕ) (v : ℕ) (before : List Step) (trail : RunBuilder) (ledger : VatLedger) → next_record findings turns v ≡ None →
    steps_of_row (taken_by findings turns) ≡ Some before → IsTrail before trail → IsKeptOf v (taken_by findings turns) before ledger →
    TakesTurn v (taken_by findings turns) (taken_by findings (v ∷ turns)) before trail ledger
skips findings turns v before trail ledger none so_far steps kept =
    let same : taken_by findings (v ∷ turns) ≡ taken_by findings turns = ap (λ o. cons_option (option_map (λ e. (v, e)) o) (taken_by findings turns)) none in
    subst (λ row. TakesTurn v (taken_by findings turns) row before trail ledger) (sym same) (before, so_far, steps, kept, λ w other apart k. k)

longer : (findings : List Found) (turns : List ℕ) (v : ℕ) (e : DecodedRecord) → next_record findings turns v ≡ Some e → taken_by findings (v ∷ turns) ≡ (v, e) ∷ taken_by findings turns
longer findings turns v e next = ap (λ o. cons_option (option_map (λ e. (v, e)) o) (taken_by findings turns)) next

-- the record of a turn comes next
pub comes_next : (f : Found) (e : DecodedRecord) (facts : Facts) (trail : RunBuilder) (ledger : VatLedger) (t : HasTurn f trail ledger) → next_record t.findings t.turns t.vat ≡ Some e →
    facts ≡ facts_of (log_of_vat t.vat (taken_by t.findings t.turns)) e → ComesNext e facts trail ledger
comes_next f e facts trail ledger t next known = record {
  vat = t.vat;
  row = taken_by t.findings t.turns;
  before = t.before;
  next = record { so_far = t.turn.so_far; trail = t.turn.trail; kept = t.turn.kept.0; known = known };
  goes_on = subst (λ row. IsSome (steps_of_row row)) (longer t.findings t.turns t.vat e next) t.goes_on;
}

pub takes : (findings : List Found) (turns : List ℕ) (v : ℕ) (e : DecodedRecord) (before : List Step) (trail : RunBuilder) (ledger : VatLedger) → next_record findings turns v ≡ Some e →
    length (steps_of_vat v before) ≡ length (log_of_vat v (taken_by findings turns)) → Comes v e (taken_by findings turns) before trail ledger →
    TakesTurn v (taken_by findings turns) (taken_by findings (v ∷ turns)) before trail ledger
takes findings turns v e before trail ledger next many c =
    let row = taken_by findings turns in
    subst (λ r. TakesTurn v row r before trail ledger) (sym (longer findings turns v e next)) (at row many c)
  where
    at : (row : Row) → length (steps_of_vat v before) ≡ length (log_of_vat v row) → Comes v e row before trail ledger → TakesTurn v row ((v, e) ∷ row) before trail ledger
    at row many c = (
      c.0 ∷ before,
      c.1,
      c.3,
      (c.4, ap length (steps_here v c.0 before c.2) ∙ ap suc many ∙ sym (ap length (log_here v v e row refl))),
      λ w other apart k. (
        kept_there w v e row before c.0 other apart c.2 k.0,
        ap length (steps_there w c.0 before (ap (λ u. u == w) c.2 ∙ apart)) ∙ k.1 ∙ ap length (sym (log_there w v e row apart)),
      ),
    )

-- so many steps are kept of a vat
pub so_many : (v : ℕ) (row : Row) (before : List Step) (ledger : VatLedger) → IsKeptOf v row before ledger → length ledger.numbers.items ≡ length (log_of_vat v row)
so_many v row before ledger kept =
    sym (length-map ledger.numbers.items (slice_get (reverse before))) ∙ ap length kept.0.numbers ∙ length-map (reverse (steps_of_vat v before)) Some ∙ length-reverse (steps_of_vat v before) ∙ kept.1

pub some_facts : {x y : Facts} → ◌≡◌ {A = Option Facts} (Some x) (Some y) → x ≡ y
some_facts e = cc
