-- The turns of an order, one after another: how far the run is by then, and what is kept of each vat.
use Rattle.std.proofs.Common.{◌≡◌, refl, sym, ◌∙◌, ap, ap₂, subst, ℕ, zero, suc, ◌+◌, ◌<◌, ◌≤◌, ◌==◌, List, [], ◌∷◌, ◌++◌, length, get_or, set, map, take, drop, reverse, Bool, true, false, ◌||◌, Option, Some, None, if◌then◌else◌, option_and_then, option_map, slice_get, arith}
use Rattle.std.specs.List.{AllByRecursion, cons_option, list_any, list_all}
use Rattle.std.proofs.lemmas.List.Elements.{All-from_recursion, All-get_or}
use Rattle.std.proofs.lemmas.List.{take_all, take_more, take-append-drop, reverse-append}
use Rattle.agree.specs.Rows.{Row}
use Rattle.merge_order.proofs.Greedy.{eqb_apart}
use Rattle.vat_rules.specs.Audit.{Found, IsTrueOf}
use Rattle.call_trace.specs.declared.records.vat_ledger.VatLedger.{VatLedger}
use Rattle.call_trace.specs.declared.steps.turns.TracedTurns.{TracedTurns}
use Rattle.call_trace.specs.Findings.{AreTrue, MayBeNamed, is_good, logs_of}
use Rattle.call_trace.specs.Glue.Ledgers.{IsKept}
use Rattle.call_trace.specs.Named.{IsRunOf}
use Rattle.call_trace.specs.Running.{steps_of_row}
use Rattle.call_trace.specs.Taking.{finding_of, record_in, steps_counted_by, next_record, taken_by}
use Rattle.call_trace.specs.Glue.Turns.{IsKeptOf, TakesTurn, vats_of_ledgers, AreKept, IsTurnOf, MayTurn, IsReached, GoesOnWith}
use Rattle.call_trace.specs.Types.{Step}
use Rattle.call_trace.proofs.Fitting.{Rises, rises}
use Rattle.call_trace.proofs.Good.{good_run}
use Rattle.call_trace.proofs.Keeping.{some_if}
use Rattle.call_trace.proofs.Points.{rows_on}
use Rattle.call_trace.proofs.Rowing.{row_stuck}
use Rattle.call_trace.proofs.Sharing.{all_test, own_found}

-- ---- the places of vats

-- the vats of findings, in their order
abbrev pub vats_in : List Found → List ℕ
vats_in findings = map (λ log. log.vat) (logs_of findings)

-- what is kept stands in the order of the findings
pub vats_kept : (row : Row) (before : List Step) (findings : List Found) (ledgers : List VatLedger) → AreKept row before findings ledgers → vats_of_ledgers ledgers ≡ vats_in findings
vats_kept row before [] [] kept = refl
vats_kept row before [] (l ∷ ls) kept = absurd kept
vats_kept row before (f ∷ fs) [] kept = absurd kept
vats_kept row before (f ∷ fs) (l ∷ ls) kept = ap₂ (λ v vs. v ∷ vs) kept.0.0.vat (vats_kept row before fs ls kept.1)

some_same : {A : Type 0} {x y : A} → Some x ≡ Some y → x ≡ y
some_same e = cc

-- that of a vat stands at this place
pub place_is : (ledgers : List VatLedger) (i v : ℕ) → i < length ledgers → ((d : VatLedger) → (get_or ledgers i d).vat ≡ v) → slice_get (vats_of_ledgers ledgers) i ≡ Some v
place_is [] i v lt is = absurd (omega (arith, lt))
place_is (l ∷ ls) zero v lt is = ap Some (is l)
place_is (l ∷ ls) (suc i) v lt is = place_is ls i v (omega (arith, lt)) is

finding_at : (findings : List Found) (i v : ℕ) → slice_get (vats_in findings) i ≡ Some v → (i < length findings) × ((d : Found) → (get_or findings i d).log.vat ≡ v)
finding_at [] i v is = absurd (let none : ⊥ = cc in none)
finding_at (f ∷ fs) zero v is = (omega arith, λ d. some_same is)
finding_at (f ∷ fs) (suc i) v is = let rest = finding_at fs i v is in (omega (arith, rest.0), rest.1)

pub place_in : (findings : List Found) (ledgers : List VatLedger) (i v : ℕ) → MayTurn findings ledgers → slice_get (vats_of_ledgers ledgers) i ≡ Some v → i < length findings
place_in findings ledgers i v may is = (finding_at findings i v (ap (λ vs. slice_get vs i) (sym may.vats) ∙ is)).0

-- a vat for which nothing is kept has no finding
any_vat : (v : ℕ) (ledgers : List VatLedger) → list_any (λ (ledger : VatLedger). ledger.vat == v) ledgers ≡ list_any (λ u. u == v) (vats_of_ledgers ledgers)
any_vat v [] = refl
any_vat v (l ∷ ls) = ap (λ b. (l.vat == v) || b) (any_vat v ls)

no_finding : (v : ℕ) (findings : List Found) → list_any (λ u. u == v) (vats_in findings) ≡ false → finding_of v findings ≡ None
no_finding v [] none = refl
no_finding v (f ∷ fs) none = at (f.log.vat == v) none (no_finding v fs)
  where
    at : (b : Bool) → (b || list_any (λ u. u == v) (vats_in fs)) ≡ false → (list_any (λ u. u == v) (vats_in fs) ≡ false → finding_of v fs ≡ None) →
        (if b then Some f else finding_of v fs) ≡ None
    at true some rest = absurd (let no : ⊥ = cc in no)
    at false none rest = rest none

above_at : (u : ℕ) (ws : List ℕ) (i v : ℕ) → AllByRecursion (λ w. u < w) ws → slice_get ws i ≡ Some v → u < v
above_at u [] i v above is = absurd (let none : ⊥ = cc in none)
above_at u (w ∷ ws) zero v above is = let same : w ≡ v = some_same is in omega (arith, above.0, same)
above_at u (w ∷ ws) (suc i) v above is = above_at u ws i v above.1 is

kept_at : (row : Row) (before : List Step) (findings : List Found) (ledgers : List VatLedger) (i : ℕ) (f : Found) (l : VatLedger) → AreKept row before findings ledgers → i < length findings →
    IsKeptOf (get_or findings i f).log.vat row before (get_or ledgers i l)
kept_at row before [] ledgers i f l kept lt = absurd (omega (arith, lt))
kept_at row before (x ∷ fs) [] i f l kept lt = absurd kept
kept_at row before (x ∷ fs) (y ∷ ls) zero f l kept lt = kept.0
kept_at row before (x ∷ fs) (y ∷ ls) (suc i) f l kept lt = kept_at row before fs ls i f l kept.1 (omega (arith, lt))

-- ---- before any turn

kept_last : (findings : List Found) (ledgers : List VatLedger) (f : Found) (l : VatLedger) → AreKept [] [] findings ledgers → IsKept f.log.vat [] [] [] l → AreKept [] [] (findings ++ f ∷ []) (ledgers ++ l ∷ [])
kept_last [] [] f l kept new = ((new, refl), tt)
kept_last [] (y ∷ ls) f l kept new = absurd kept
kept_last (x ∷ fs) [] f l kept new = absurd kept
kept_last (x ∷ fs) (y ∷ ls) f l kept new = (kept.0, kept_last fs ls f l kept.1 new)

pub kept_more : (findings : List Found) (ledgers : List VatLedger) (i : ℕ) (f : Found) (l : VatLedger) → i < length findings → f ≡ get_or findings i f → AreKept [] [] (take i findings) ledgers →
    IsKept f.log.vat [] [] [] l → AreKept [] [] (take (i + 1) findings) (ledgers ++ l ∷ [])
kept_more findings ledgers i f l lt is kept new =
    subst (λ fs. AreKept [] [] fs (ledgers ++ l ∷ [])) (sym (take_more findings i f lt ∙ ap (λ x. take i findings ++ x ∷ []) (sym is)))
    (kept_last (take i findings) ledgers f l kept new)

-- ---- what is kept after a turn

module _ (row longer : Row) (before more : List Step) (v : ℕ) (stays : (w : ℕ) (other : VatLedger) → (v == w) ≡ false → IsKeptOf w row before other → IsKeptOf w longer more other) where
  kept_on : (findings : List Found) (ledgers : List VatLedger) → AllByRecursion (λ w. v < w) (vats_in findings) → AreKept row before findings ledgers → AreKept longer more findings ledgers
  kept_on [] [] above kept = tt
  kept_on [] (l ∷ ls) above kept = absurd kept
  kept_on (f ∷ fs) [] above kept = absurd kept
  kept_on (f ∷ fs) (l ∷ ls) above kept =
      let less = above.0 in
      (stays f.log.vat l (eqb_apart v f.log.vat (λ same. omega (arith, less, same))) kept.0, kept_on fs ls above.1 kept.1)

  kept_turned : (findings : List Found) (ledgers : List VatLedger) (i : ℕ) (now : VatLedger) → Rises (vats_in findings) → slice_get (vats_in findings) i ≡ Some v → AreKept row before findings ledgers →
      IsKeptOf v longer more now → AreKept longer more findings (set ledgers i now)
  kept_turned [] ledgers i now up is kept turned = absurd (let none : ⊥ = cc in none)
  kept_turned (f ∷ fs) [] i now up is kept turned = absurd kept
  kept_turned (f ∷ fs) (l ∷ ls) zero now up is kept turned =
      let same : f.log.vat ≡ v = some_same is in (
        subst (λ u. IsKeptOf u longer more now) (sym same) turned,
        kept_on fs ls (subst (λ u. AllByRecursion (λ w. u < w) (vats_in fs)) same up.0) kept.1,
      )
  kept_turned (f ∷ fs) (l ∷ ls) (suc i) now up is kept turned =
      let less = above_at f.log.vat (vats_in fs) i v up.0 is in
      (stays f.log.vat l (eqb_apart v f.log.vat (λ same. omega (arith, less, same))) kept.0, kept_turned fs ls i now up.1 is kept.1 turned)

-- ---- a turn

-- of a vat that has no finding nothing is taken
pub passes : (findings : List Found) (turns : List ℕ) (v : ℕ) (state : TracedTurns) → MayTurn findings state.ledgers.items → list_any (λ (ledger : VatLedger). ledger.vat == v) state.ledgers.items ≡ false →
    IsReached findings turns state → IsReached findings (v ∷ turns) state
passes findings turns v state may none reached =
    let no = no_finding v findings (ap (list_any (λ u. u == v)) (sym may.vats) ∙ sym (any_vat v state.ledgers.items) ∙ none) in
    let next : next_record findings turns v ≡ None = ap (λ o. option_and_then (λ f. record_in f (steps_counted_by v turns)) o) no in
    let same : taken_by findings (v ∷ turns) ≡ taken_by findings turns = ap (λ o. cons_option (option_map (λ e. (v, e)) o) (taken_by findings turns)) next in
    record {
      before = reached.before;
      steps = ap steps_of_row same ∙ reached.steps;
      trail = reached.trail;
      kept = subst (λ row. AreKept row reached.before findings state.ledgers.items) (sym same) reached.kept;
    }

-- the finding of a vat, and what is kept of it, stand at one place
pub record IsPlaced (findings : List Found) (turns : List ℕ) (v : ℕ) (before : List Step) (f : Found) (l : VatLedger) : Type 0 where
  pub found : finding_of v findings ≡ Some f
  pub kept : IsKeptOf v (taken_by findings turns) before l

-- it is good, and true
pub good_at : (findings : List Found) (i : ℕ) (f : Found) → list_all (λ (finding : Found). is_good finding.outcome) findings ≡ true → i < length findings → f ≡ get_or findings i f → is_good f.outcome ≡ true
good_at findings i f good lt is =
    let all = All-from_recursion (λ (finding : Found). is_good finding.outcome ≡ true) findings (all_test (λ (finding : Found). is_good finding.outcome) findings good) in
    subst (λ (x : Found). is_good x.outcome ≡ true) (sym is) (All-get_or (λ (finding : Found). is_good finding.outcome ≡ true) findings i f lt all)

pub true_at : (findings : List Found) (i : ℕ) (f : Found) → AreTrue findings → i < length findings → f ≡ get_or findings i f → IsTrueOf f.log f.limits f.outcome
true_at findings i f all lt is =
    subst (λ (x : Found). IsTrueOf x.log x.limits x.outcome) (sym is) (All-get_or (λ (finding : Found). IsTrueOf finding.log finding.limits finding.outcome) findings i f lt all)

pub placed : (findings : List Found) (ledgers : List VatLedger) (turns : List ℕ) (v : ℕ) (before : List Step) (i : ℕ) (f : Found) (l : VatLedger) → MayTurn findings ledgers →
    slice_get (vats_of_ledgers ledgers) i ≡ Some v → f ≡ get_or findings i f → l ≡ get_or ledgers i l → AreKept (taken_by findings turns) before findings ledgers → IsPlaced findings turns v before f l
placed findings ledgers turns v before i f l may is one its kept =
    let there = finding_at findings i v (ap (λ vs. slice_get vs i) (sym may.vats) ∙ is) in
    let own : f.log.vat ≡ v = ap (λ (x : Found). x.log.vat) one ∙ there.1 f in
    let at = kept_at (taken_by findings turns) before findings ledgers i f l kept there.0 in
    record {
      found = subst (λ u. finding_of u findings ≡ Some f) own (own_found findings f (rises _ may.rising) (i, there.0, sym one));
      kept =
          subst (λ u. IsKeptOf u (taken_by findings turns) before l) (there.1 f)
          (subst (λ (x : VatLedger). IsKeptOf (get_or findings i f).log.vat (taken_by findings turns) before x) (sym its) at);
    }

-- its turn comes next
pub turn_of : (findings : List Found) (turns : List ℕ) (v : ℕ) (f : Found) (l : VatLedger) (state : TracedTurns) (reached : IsReached findings turns state) → IsPlaced findings turns v reached.before f l →
    IsTurnOf findings turns v reached.before f state.trail l
turn_of findings turns v f l state reached p = record {
  found = p.found;
  so_far = reached.steps;
  trail = reached.trail;
  kept = p.kept;
}

pub turned : (findings : List Found) (turns : List ℕ) (v : ℕ) (ledgers : List VatLedger) (i : ℕ) (before : List Step) (now : VatLedger) (new : TracedTurns) → MayTurn findings ledgers →
    slice_get (vats_of_ledgers ledgers) i ≡ Some v → AreKept (taken_by findings turns) before findings ledgers → new.ledgers.items ≡ set ledgers i now →
    TakesTurn v (taken_by findings turns) (taken_by findings (v ∷ turns)) before new.trail now → IsReached findings (v ∷ turns) new
turned findings turns v ledgers i before now new may is kept items goes =
    let all =
    kept_turned (taken_by findings turns) (taken_by findings (v ∷ turns)) before goes.0 v goes.4 findings ledgers i now (rises _ may.rising)
    (ap (λ vs. slice_get vs i) (sym may.vats) ∙ is) kept goes.3 in
    record {
      before = goes.0;
      steps = goes.1;
      trail = goes.2;
      kept = subst (AreKept (taken_by findings (v ∷ turns)) goes.0 findings) (sym items) all;
    }

-- ---- all turns

pub turn_more : (order : List ℕ) (i : ℕ) → i < length order → reverse (take (i + 1) order) ≡ get_or order i 0 ∷ reverse (take i order)
turn_more order i lt = ap reverse (take_more order i 0 lt) ∙ reverse-append (take i order) (get_or order i 0 ∷ [])

-- where a record has no step, none behind it makes a run
stuck : (findings : List Found) (later turns : List ℕ) → steps_of_row (taken_by findings turns) ≡ None → steps_of_row (taken_by findings (later ++ turns)) ≡ None
stuck findings later turns none = let on = rows_on findings later turns in ap steps_of_row on.1 ∙ row_stuck on.0 (taken_by findings turns) none

module _ (findings : List Found) (order : List ℕ) (true_all : AreTrue findings) (asked : MayBeNamed findings order) where
  pub may_turn : (turns : List ℕ) (state : TracedTurns) → IsReached findings turns state → MayTurn findings state.ledgers.items
  may_turn turns state reached = record {
    outcomes = true_all;
    good = asked.good;
    rising = asked.rising;
    vats = vats_kept (taken_by findings turns) reached.before findings state.ledgers.items reached.kept;
  }

  never_stuck : (i : ℕ) → i < length order → steps_of_row (taken_by findings (get_or order i 0 ∷ reverse (take i order))) ≡ None → ⊥
  never_stuck i lt none =
      let later = reverse (drop (i + 1) order) in
      let whole : reverse order ≡ later ++ get_or order i 0 ∷ reverse (take i order) =
      ap reverse (sym (take-append-drop (i + 1) order)) ∙ reverse-append (take (i + 1) order) (drop (i + 1) order) ∙ ap (λ l. later ++ l) (turn_more order i lt) in
      let has = (good_run findings order true_all asked).1 in
      let has_none = ap (λ l. steps_of_row (taken_by findings l)) whole ∙ stuck findings later (get_or order i 0 ∷ reverse (take i order)) none in
      let no : ◌≡◌ {A = Option (List Step)} (Some (good_run findings order true_all asked).0) None = sym has ∙ has_none in
      let n : ⊥ = cc in n

  -- the next turn of the order has a step
  pub goes_on : (i : ℕ) (state : TracedTurns) → i < length order → IsReached findings (reverse (take i order)) state → GoesOnWith findings (get_or order i 0) state
  goes_on i state lt reached = record {
    turns = reverse (take i order);
    reached = reached;
    goes_on = some_if _ (never_stuck i lt);
  }

  pub run_named : (i : ℕ) (state : TracedTurns) → length order ≤ i → IsReached findings (reverse (take i order)) state → IsRunOf findings order state.trail.steps.items
  run_named i state all reached =
      let run = good_run findings order true_all asked in
      let whole : reverse (take i order) ≡ reverse order = ap reverse (take_all i order all) in
      let same : ◌≡◌ {A = Option (List Step)} (Some reached.before) (Some run.0) = sym reached.steps ∙ ap (λ l. steps_of_row (taken_by findings l)) whole ∙ run.1 in
      let steps : reached.before ≡ run.0 = some_same same in
      subst (IsRunOf findings order) (sym (reached.trail.steps ∙ ap reverse steps)) run.2
