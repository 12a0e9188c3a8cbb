-- The table of turns after a record, and what it says of views.
use Rattle.std.proofs.Common.{◌≡◌, ◌<◌, ◌≤◌, inl, inr, refl, sym, ◌∙◌, ap, ap₂, ℕ, ◌==◌, List, [], ◌∷◌, length, Bool, true, false, Option, Some, None, if◌then◌else◌, option_map, option_and_then, arith}
use Rattle.std.proofs.lemmas.Bool.{cases_Bool, ltb-true, ltb-false, eq-eqb}
use Rattle.number_tables.specs.declared.question_table.Questions.{Questions}
use Rattle.number_tables.specs.declared.exports_imports.ExportsImports.{ExportsImports}
use Rattle.vat_view.specs.declared.tables.references.BoundReferences.{BoundReferences}
use Rattle.vat_view.specs.declared.tables.turns.settlements.Settlements.{Settlements}
use Rattle.vat_view.specs.declared.tables.turns.settlements.Settling.{Settling}
use Rattle.vat_view.specs.declared.tables.turns.turned.Turned.{Turned}
use Rattle.vat_view.specs.declared.tables.turns.handovers.Handover.{Handover}
use Rattle.vat_view.specs.declared.record.unsettled.Unsettled.TheVariants.{Promise as PromiseToKeep, Results as ResultsOf, Import as ImportToResolve}
use Rattle.vat_view.specs.Types.{Return, Resolve, DecodedRecord, Fulfil, Break, Answer, AnswerBy, Fault, Wire, View, Object, Promise, FieldOf, Import, TableKey}
use Rattle.std.specs.Option.{option_or}
use Rattle.decoded_records.specs.Past.{Past, Point, id, point, record_index, last_answer}
use Rattle.decoded_records.specs.Questions.{call_at, opening}
use Rattle.decoded_records.specs.Lives.{Birth, birth, begins, held, is_in_life}
use Rattle.decoded_records.specs.Views.{view_of_reference}
use Rattle.decoded_records.specs.Calls.{call_taken_from}
use Rattle.vat_view.specs.Walks.{on_to, next, turned_to}
use Rattle.number_tables.specs.Glue.QuestionTables.{question_at}
use Rattle.number_tables.specs.Glue.LifeTables.{held_count_at, origin_at, held_origin}
use Rattle.vat_view.specs.Glue.Tables.{origin_of, bound_at, AreTabled, IsFit}
use Rattle.vat_view.specs.Glue.TurnTables.{is_this, promise_of, import_at, unless_elsewhere, results_by, import_by, settlement_of, settled_by, turn_target, target_in, Settler, Turning, turning_of, goes, goes_to, landing_of, landing_view, settler, settler_at_point, settler_of, last_settler, settled_as, settles, handing, handover_of, handover_at, handover_after, SaysSameTurns, IsNoted, by_handover, AreSettled, call_behind_by, turning_by, goes_by}
use Rattle.decoded_records.specs.Glue.Parts.{field_path}
use Rattle.vat_view.proofs.Knowing.{known_from}
use Rattle.number_tables.proofs.Raising.{positive}
use Rattle.vat_view.proofs.Landed.{going_step, turning_step, lands_bound}
use Rattle.vat_view.proofs.Handed.{answerer_settles, handed_step, matched}

-- ---- what a record settles, by the tables before it

module _ (before : Past) (questions : Questions) (lives : ExportsImports) (bound : BoundReferences) (kept : AreTabled before questions lives bound) where
  results_from : (q : TableKey) (o : Option Point) → results_by (option_map (known_from q before) o) ≡ option_map ResultsOf (call_at o)
  results_from q (Some p) = refl
  results_from q None = refl

  import_from : (o : Option Birth) → import_by (option_map origin_of o) ≡ option_map import_at o
  import_from (Some b) = refl
  import_from None = refl

  import_known : (i : TableKey) → import_by (held_origin lives i) ≡ option_map import_at (birth i before)
  import_known i = elim (cases_Bool (is_in_life i before)) [
    | inl alive ↦
        let some : (held_count_at lives i == 0) ≡ false =
        positive (held_count_at lives i) (let more : 0 < held i before = ltb-true 0 (held i before) alive in let same = kept.tabled.counted i in omega (arith, more, same)) in
        ap (λ b. import_by (if b then None else origin_at lives i)) some
        ∙ ap (λ o. import_by o) (kept.tabled.born i alive)
        ∙ import_from (last_answer (begins i) before)
        ∙ sym (ap (λ b. option_map import_at (if b then last_answer (begins i) before else None)) alive)
    | inr out ↦
        let none : (held_count_at lives i == 0) ≡ true =
        eq-eqb (held_count_at lives i) 0 (let less : held i before ≤ 0 = ltb-false 0 (held i before) out in let same = kept.tabled.counted i in omega (arith, less, same)) in
        ap (λ b. import_by (if b then None else origin_at lives i)) none
        ∙ sym (ap (λ b. option_map import_at (if b then last_answer (begins i) before else None)) out)
  ]

  pub settled_known : (e : DecodedRecord) → settled_by (bound_at bound) lives (question_at questions) e ≡ settlement_of before e
  settled_known (Fulfil r to) = ap (λ o. promise_of o) (kept.bounds r)
  settled_known (Break r) = ap (λ o. promise_of o) (kept.bounds r)
  settled_known (Answer c results) = refl
  settled_known (AnswerBy c by) = refl
  settled_known (Fault c) = refl
  settled_known (Wire false k c rs (Return head outcome)) =
      let i : TableKey = id k true head.answer in ap (λ s. unless_elsewhere outcome s) (ap (λ o. results_by o) (kept.tabled.known i) ∙ results_from i (opening i before))
  settled_known (Wire false k c rs (Resolve n resolution)) = import_known (id k false n)
  settled_known _ = refl

-- ---- the table after a record

-- the last record that settled a view, after a record
last_more : (v : View) (before : Past) (e : DecodedRecord) → (if settles v (settlement_of before e) then Some (point before e) else last_settler v before) ≡ last_settler v (e ∷ before)
last_more (Object object) before e = refl
last_more (Promise p) before e = refl
last_more (FieldOf call path) before e = refl
last_more (Import i place) before e = refl

settled_if : (v : View) (b : Bool) (before : Past) (e : DecodedRecord) (number : ℕ) (turned : Turned) (o : Option Point) → number ≡ length before → (b ≡ true → target_in (field_path v) turned ≡ turn_target (field_path v) e) →
    (if b then Some (number, target_in (field_path v) turned) else option_map (settled_as v) o) ≡ option_map (settled_as v) (if b then Some (point before e) else o)
settled_if v true before e number turned o place is_turned = ap₂ (λ n r. Some (n, r)) place (is_turned refl)
settled_if v false before e number turned o place is_turned = refl

-- a table that says the same
pub settled_same : (past : Past) (table other : Settlements) → SaysSameTurns table other → AreSettled past table → AreSettled past other
settled_same past table other same kept = record {
  settlers = λ v. same.settlers v ∙ kept.settlers v;
  handed = λ c. same.handed c ∙ kept.handed c;
  going = kept.going;
  turning = kept.turning;
  landed = kept.landed;
}

pub says_then : (a b c : Settlements) → SaysSameTurns a b → SaysSameTurns b c → SaysSameTurns a c
says_then a b c first second = record { settlers = λ v. second.settlers v ∙ first.settlers v; handed = λ n. second.handed n ∙ first.handed n }

-- what is answered by another call
handed_more : (c : ℕ) (before : Past) (e : DecodedRecord) (number : ℕ) (s : Settling) (old : Option Handover) → number ≡ length before → s.settled ≡ settlement_of before e → s.by ≡ call_taken_from before e →
    old ≡ handover_of c before → handover_after s.settled s.by number c old ≡ handover_of c (e ∷ before)
handed_more c before e number s old place is_settled taken was =
    ap₂ (λ x o. if is_this (ResultsOf c) x then option_or (option_map (handing number) s.by) o else o) is_settled was
    ∙ ap₂ (λ n t. if is_this (ResultsOf c) (settlement_of before e) then option_or (option_map (handing n) t) (handover_of c before) else handover_of c before) place taken
    ∙ handed_step (is_this (ResultsOf c) (settlement_of before e)) (call_taken_from before e) (length before) (handover_of c before)
    ∙ ap (λ o. option_or (option_map (handing (length before)) o) (handover_of c before)) (sym (answerer_settles c before e))

pub settled_more : (before : Past) (e : DecodedRecord) (table other : Settlements) (number : ℕ) (s : Settling) → IsFit before e → number ≡ length before → s.settled ≡ settlement_of before e →
    s.by ≡ call_taken_from before e → ((v : View) → settles v s.settled ≡ true → target_in (field_path v) s.turned ≡ turn_target (field_path v) e) → IsNoted s number table other → AreSettled before table → AreSettled (e ∷ before) other
settled_more before e table other number s fit place is_settled taken is_turned noted kept = record {
  settlers = λ v.
      noted.settlers v ∙ ap₂ (λ x o. if settles v x then Some (number, target_in (field_path v) s.turned) else o) is_settled (kept.settlers v)
      ∙ settled_if v (settles v (settlement_of before e)) before e number s.turned (last_settler v before) place (λ h. is_turned v (ap (λ x. settles v x) is_settled ∙ h))
      ∙ ap (λ o. option_map (settled_as v) o) (last_more v before e);
  handed = λ c. noted.handed c ∙ handed_more c before e number s (handover_at table c) place is_settled taken (kept.handed c);
  going = λ v. going_step before e fit.refers fit.notes kept.landed v (kept.going v);
  turning = λ v. turning_step before e fit.refers fit.notes v (kept.turning v);
  landed = (lands_bound before e fit.refers, kept.landed);
}

-- after one more, for which room was made
pub turns_applied : (before : Past) (e : DecodedRecord) (number : ℕ) (s : Settling) (questions : Questions) (lives : ExportsImports) (bound : BoundReferences) (table room more : Settlements) →
    number ≡ length before → IsFit before e → AreTabled before questions lives bound → AreSettled before table →
    s.settled ≡ settled_by (bound_at bound) lives (question_at questions) e → s.by ≡ call_taken_from before e →
    ((v : View) → settles v s.settled ≡ true → target_in (field_path v) s.turned ≡ turn_target (field_path v) e) → SaysSameTurns table room → IsNoted s number room more →
    AreSettled (e ∷ before) more
turns_applied before e number s questions lives bound table room more place fit tabled kept is_settled taken is_turned says noted =
    settled_more before e room more number s fit place (is_settled ∙ settled_known before questions lives bound tabled e) taken is_turned noted (settled_same before table room says kept)

-- ---- where views go, by the table

-- where a view goes as its settler turns it
goes_turned : (named : ℕ → Option View) (path : List ℕ) (o : Option Settler) → goes_to named path (option_map (turning_of path) o) ≡ goes named path o
goes_turned named path None = refl
goes_turned named path (Some (e, Some by)) = refl
goes_turned named path (Some (e, None)) = refl

goes_named : (named other : ℕ → Option View) → ((r : ℕ) → named r ≡ other r) → (path : List ℕ) (o : Option Turning) → goes_to named path o ≡ goes_to other path o
goes_named named other h path None = refl
goes_named named other h path (Some (r, Some by)) = refl
goes_named named other h path (Some (None, None)) = refl
goes_named named other h path (Some (Some r, None)) = ap (λ w. on_to w) (h r)

module _ (past : Past) (table : Settlements) (kept : AreSettled past table) where
  behind_known : (c : ℕ) (q : Point) → settler (ResultsOf c) past ≡ Some q → by_handover (record_index q) (handover_at table c) ≡ call_taken_from q.before q.event
  behind_known c q h = ap (λ o. by_handover (record_index q) o) (kept.handed c) ∙ matched c past q h

  abbrev turning_as : View → Option Point → Option Turning
  turning_as v o = option_map (λ s. (s.1, call_behind_by table v s.0)) (option_map (settled_as v) o)

  turning_there : (v : View) → turning_as v (last_settler v past) ≡ option_map (turning_of (field_path v)) (settler_of v past)
  turning_there (Object object) = refl
  turning_there (Promise p) = inner (settler (PromiseToKeep p) past)
    where
      inner : (o : Option Point) → turning_as (Promise p) o ≡ option_map (turning_of []) (option_map (settler_at_point (PromiseToKeep p)) o)
      inner None = refl
      inner (Some q) = refl
  turning_there (FieldOf call path) = inner (settler (ResultsOf call) past) refl
    where
      inner : (o : Option Point) → settler (ResultsOf call) past ≡ o → turning_as (FieldOf call path) o ≡ option_map (turning_of path) (option_map (settler_at_point (ResultsOf call)) o)
      inner None h = refl
      inner (Some q) h = ap (λ by. Some (turn_target path q.event, by)) (behind_known call q h)
  turning_there (Import i place) = inner (settler (ImportToResolve i place) past)
    where
      inner : (o : Option Point) → turning_as (Import i place) o ≡ option_map (turning_of []) (option_map (settler_at_point (ImportToResolve i place)) o)
      inner None = refl
      inner (Some q) = refl

  turning_known : (v : View) → turning_by table v ≡ option_map (turning_of (field_path v)) (settler_of v past)
  turning_known v = ap (λ o. option_map {U = Turning} (λ s. (s.1, call_behind_by table v s.0)) o) (kept.settlers v) ∙ turning_there v

  pub goes_known : (bound : BoundReferences) → ((r : ℕ) → bound_at bound r ≡ view_of_reference past r) → (v : View) → goes_by table (bound_at bound) v ≡ next past v
  goes_known bound bounds v =
      goes_named (bound_at bound) (view_of_reference past) bounds (field_path v) (turning_by table v)
      ∙ ap (λ o. goes_to (view_of_reference past) (field_path v) o) (turning_known v)
      ∙ goes_turned (view_of_reference past) (field_path v) (settler_of v past) ∙ sym (kept.going v)

-- ---- where each turn lands

turned_on_to : (o : Option View) → turned_to (on_to o) ≡ o
turned_on_to (Some v) = refl
turned_on_to None = refl

-- a view turns to the view of the reference, or to the field of the call, where it lands
pub turn_landing : (named : ℕ → Option View) (path : List ℕ) (o : Option Turning) → turned_to (goes_to named path o) ≡ option_and_then (landing_view named path) (option_and_then landing_of o)
turn_landing named path (Some (r, Some by)) = refl
turn_landing named path (Some (Some r, None)) = turned_on_to (named r)
turn_landing named path (Some (None, None)) = refl
turn_landing named path None = refl
