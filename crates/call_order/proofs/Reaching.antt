-- The turns so far: what is kept after one more, and before the first.
use Rattle.std.proofs.Common.{◌≡◌, inl, inr, refl, sym, ◌∙◌, ap, subst, ℕ, suc, ◌+◌, ◌==◌, List, [], ◌∷◌, map, Option, Some, None, if◌then◌else◌, arith, eqb-true}
use Rattle.std.proofs.lemmas.Bool.{cases_Bool, false≢true}
use Rattle.agree.proofs.Points.{heads, tails}
use Rattle.agree.specs.Rows.{Row, log_of_vat}
use Rattle.call_trace.proofs.Carrying.{IsNext, named_next, log_here, log_there, steps_here, steps_there}
use Rattle.call_trace.proofs.Next.{run_before}
use Rattle.call_trace.proofs.Running.{good_now}
use Rattle.call_trace.specs.Running.{steps_by, IsNamedRow, MayRun}
use Rattle.call_trace.specs.Types.{DecodedRecord, Step}
use Rattle.run_model.specs.Steps.{count_steps, vat_of}
use Rattle.turn_taking.specs.Turns.{Turns}
use Rattle.vat_log.specs.declared.body.Body.{Body}
use Rattle.vat_rules.specs.Judged.{IsGood}
use Rattle.vat_rules.specs.declared.rule.Rule.TheVariants as rule
use Rattle.decoded_records.specs.Past.{Each}
use Rattle.call_order.specs.Glue.Counts.{taken_count, turns_counted}
use Rattle.call_order.specs.Glue.Deeds.{deed_of}
use Rattle.call_order.specs.Glue.Names.{name_come, AreNamed}
use Rattle.call_order.specs.Glue.UnderWay.{one_of, calls_to}
use Rattle.call_order.specs.Glue.Told.{calls_told}
use Rattle.call_order.specs.Glue.Tables.{IsDone}
use Rattle.call_order.specs.Glue.Reached.{AreRead, AreKept, AreTablesOf, IsReached}
use Rattle.call_order.specs.declared.taken_counts.TakenCounts.{TakenCounts}
use Rattle.call_order.specs.declared.order_tables.OrderTables.{OrderTables}
use Rattle.call_order.proofs.Calling.{named_beside}
use Rattle.call_order.proofs.Doing.{IsTurn, IsTurned, turned}
use Rattle.call_order.proofs.Saying.{deed_is}
use Rattle.call_order.proofs.Turning.{counted_own, counted_other}

-- ---- a vat has as many steps as turns

as_many_steps : (v : ℕ) (before : List Step) (row : Row) (turns : Turns) → map vat_of before ≡ map (λ r. r.0) row → AreRead row turns → turns_counted v turns ≡ count_steps (λ t. vat_of t == v) before
as_many_steps v [] [] [] by read = refl
as_many_steps v (s ∷ before) [] turns by read = absurd (let no : ⊥ = cc in no)
as_many_steps v [] (r ∷ row) turns by read = absurd (let no : ⊥ = cc in no)
as_many_steps v [] [] (turn ∷ turns) by read = absurd read
as_many_steps v (s ∷ before) (r ∷ row) [] by read = absurd read
as_many_steps v (s ∷ before) (r ∷ row) (turn ∷ turns) by read =
    let rest = as_many_steps v before row turns (tails by) read.2 in
    let same : vat_of s ≡ turn.0 = heads by ∙ read.0 in
    elim (cases_Bool (vat_of s == v)) [
      | inl own ↦
          counted_own v turn turns (ap (λ x. x == v) (sym same) ∙ own) ∙ ap (λ n. n + 1) rest ∙ let one : count_steps (λ t. vat_of t == v) before + 1 ≡ suc (count_steps (λ t. vat_of t == v) before) = omega arith in one
          ∙ ap (λ b. if b then suc (count_steps (λ t. vat_of t == v) before) else count_steps (λ t. vat_of t == v) before) (sym own)
      | inr apart ↦
          counted_other v turn turns (ap (λ x. x == v) (sym same) ∙ apart) ∙ rest
          ∙ ap (λ b. if b then suc (count_steps (λ t. vat_of t == v) before) else count_steps (λ t. vat_of t == v) before) (sym apart)
    ]

-- ---- one turn more

module _ (turns : Turns) (v : ℕ) (body : Body) (tables new : OrderTables) (number : ℕ) (reached : AreTablesOf turns tables) (taken : number ≡ turns_counted v turns) (done : IsDone v number (deed_of body) tables new) where
  module _ (e : DecodedRecord) (row : Row) (more : List Step) (read : AreRead ((v, e) ∷ row) ((v, body) ∷ turns)) (runs : MayRun ((v, e) ∷ row)) (named : IsNamedRow ((v, e) ∷ row) more) where
    next : IsNext v e row more
    next = named_next v e row more named

    before : AreKept row next.before tables
    before = reached row next.before read.2 (run_before ((v, e) ∷ row) row ((v, e) ∷ [], refl) runs) next.rest

    good : Each IsGood (log_of_vat v row) × IsGood (log_of_vat v row) e
    good = good_now v e row runs

    turn : IsTurn v number (log_of_vat v row) (steps_by v next.before) next.before e next.step tables new
    turn = record {
      good = good.1;
      past = good.0;
      says = next.says;
      linked = (next.linked, next.rest.linked);
      named = before.named v;
      under_way = before.under_way;
      told = before.told;
      counted = taken ∙ as_many_steps v next.before row turns next.rest.by_row read.2;
      done = subst (λ d. IsDone v number d tables new) (deed_is read.1.0 body e read.1.1 (good.1 rule.Ref).noted) done;
    }

    now : IsTurned v (log_of_vat v row) (steps_by v next.before) next.before e next.step tables new
    now = turned v number (log_of_vat v row) (steps_by v next.before) next.before tables new e next.step turn

    named_now : (w : ℕ) → AreNamed w (log_of_vat w ((v, e) ∷ row)) (steps_by w (next.step ∷ next.before)) new.names
    named_now w = elim (cases_Bool (v == w)) [
      | inl same ↦
          let here : v ≡ w = eqb-true v w same in
          subst (λ w. AreNamed w (log_of_vat w ((v, e) ∷ row)) (steps_by w (next.step ∷ next.before)) new.names) here
          (subst (λ l. AreNamed v l (steps_by v (next.step ∷ next.before)) new.names) (sym (log_here v v e row refl))
          (subst (λ l. AreNamed v (e ∷ log_of_vat v row) l new.names) (sym (steps_here v next.step next.before next.vat)) now.named))
      | inr apart ↦
          subst (λ l. AreNamed w l (steps_by w (next.step ∷ next.before)) new.names) (sym (log_there w v e row apart))
          (subst (λ l. AreNamed w (log_of_vat w row) l new.names) (sym (steps_there w next.step next.before (ap (λ x. x == w) next.vat ∙ apart)))
          (named_beside w (log_of_vat w row) (steps_by w next.before) tables.names new.names (λ d. now.others w d apart) (before.named w)))
    ]

    kept_now : AreKept ((v, e) ∷ row) more new
    kept_now = subst (λ steps. AreKept ((v, e) ∷ row) steps new) (sym next.all) (record { named = named_now; under_way = now.under_way; told = now.told })

  tables_more : AreTablesOf ((v, body) ∷ turns) new
  tables_more [] more read runs named = absurd read
  tables_more ((u, e) ∷ row) more read runs named =
      subst (λ w. AreRead ((w, e) ∷ row) ((v, body) ∷ turns) → MayRun ((w, e) ∷ row) → IsNamedRow ((w, e) ∷ row) more → AreKept ((w, e) ∷ row) more new) (sym read.0) (kept_now e row more) read runs named

-- a vat takes its turn, and its record does what it does
pub reached_more : (turns : Turns) (v : ℕ) (body : Body) (tables new_tables : OrderTables) (counts new_counts : TakenCounts) (number : ℕ) → IsReached turns tables counts → number ≡ taken_count counts v →
    ((w : ℕ) → taken_count new_counts w ≡ (if v == w then taken_count counts w + 1 else taken_count counts w)) → IsDone v number (deed_of body) tables new_tables → IsReached ((v, body) ∷ turns) new_tables new_counts
reached_more turns v body tables new_tables counts new_counts number reached taken further done = record {
  steps = tables_more turns v body tables new_tables number reached.steps (taken ∙ reached.numbers v) done;
  numbers = λ w. elim (cases_Bool (v == w)) [
    | inl own ↦ further w ∙ ap (λ b. if b then taken_count counts w + 1 else taken_count counts w) own ∙ ap (λ n. n + 1) (reached.numbers w) ∙ sym (counted_own w (v, body) turns own)
    | inr apart ↦ further w ∙ ap (λ b. if b then taken_count counts w + 1 else taken_count counts w) apart ∙ reached.numbers w ∙ sym (counted_other w (v, body) turns apart)
  ];
}

-- ---- before the first turn

empty_steps : (before : List Step) → map vat_of before ≡ [] → before ≡ []
empty_steps [] h = refl
empty_steps (s ∷ before) h = absurd (let no : ⊥ = cc in no)

module _ (tables : OrderTables) (names : (v c : ℕ) → name_come tables.names v c ≡ None) (ones : (k : ℕ) → one_of tables.under_way k ≡ None) (calls : (v k : ℕ) → calls_to tables.under_way v k ≡ []) (told : (v : ℕ) → calls_told tables.told v ≡ []) where
  tables_begin : AreTablesOf [] tables
  tables_begin (r ∷ row) before read runs named = absurd read
  tables_begin [] before read runs named =
      subst (λ steps. AreKept [] steps tables) (sym (empty_steps before named.by_row)) (record {
        named = λ v. record { here = λ c h. absurd (false≢true h); unbound = λ c h. names v c };
        under_way = record { users = λ k one v is apart. absurd (let none : ◌≡◌ {A = Option ℕ} None (Some one) = sym (ones k) ∙ is in let no : ⊥ = cc in no); calls = λ v k end. calls v k };
        told = told;
      })

  pub reached_begin : (counts : TakenCounts) → ((v : ℕ) → taken_count counts v ≡ 0) → IsReached [] tables counts
  reached_begin counts none = record { steps = tables_begin; numbers = none }
