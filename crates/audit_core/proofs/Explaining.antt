-- The run of findings explains the logs of their case, and no vat has too many steps in it.
use Rattle.std.proofs.lemmas.Bool.{cases_eq, eq-eqb, false≢true}
use Rattle.std.proofs.Common.{◌≡◌, ℕ, suc, ◌+◌, inl, inr, ◌-◌, ◌<◌, ◌≤◌, ◌^◌, Bool, true, false, List, [], ◌∷◌, length, map, take, Option, Some, None, refl, sym, ap, ◌∙◌, subst, arith}
use Rattle.std.specs.Prelude.{◌==◌, ◌||◌, Contains, IsTrue, count_by}
use Rattle.std.specs.List.{list_any, AllByRecursion, filter}
use Rattle.std.proofs.lemmas.List.Sums.{sum_by-cons}
use Rattle.cap_reader.specs.declared.limits.Limits.{Limits}
use Rattle.vat_log.specs.Log.{Log}
use Rattle.decoded_records.specs.Past.{Each}
use Rattle.vat_rules.specs.Audit.{Found, reads_within}
use Rattle.vat_rules.specs.Events.{past_at}
use Rattle.merge_order.specs.Fits.{Part, begin, after, part_of, may_come, may_come_from, FitsFrom, IsFitting}
use Rattle.merge_order.proofs.Greedy.{bool_cases, some_is, eqb_apart, further_cases, part_stays, has_left}
use Rattle.merge_order.proofs.Steps.{left, falls}
use Rattle.run_model.specs.Steps.{vat_of, steps_of}
use Rattle.run_model.specs.declared.step.Step.{Step}
use Rattle.call_trace.specs.Balance.{IsBalanced}
use Rattle.call_trace.specs.Findings.{AreEnds, logs_of}
use Rattle.call_trace.specs.InLife.{UsesLives}
use Rattle.call_trace.specs.Named.{past_of, IsRunOf}
use Rattle.call_trace.specs.Part.{IsPart}
use Rattle.case_book.specs.Books.{AllFound, AreAll}
use Rattle.audit_core.specs.Headline.{records_of, taken_of, IsBalancedThroughout, Explains}
use Rattle.audit_core.specs.Report.{records_in, count_all, records_delivery, IsGoodCase, IsOrderFor, IsEarlyAt, IsReport, AreGoodFindings, HoldsOfEach}
use Rattle.vat_log.specs.Passages.{sends, receives}
use Rattle.case_report.specs.declared.report.Report.{Report}
use Rattle.case_report.specs.declared.report.Report.TheVariants as report
use Rattle.audit_core.proofs.FirstLine.{good_case}
use Rattle.run_model.specs.Early.{IsOrderFault}
use Rattle.audit_core.proofs.Places.{each_at, each_so, contained}
use Rattle.audit_core.proofs.Whole.{as_log, logs_are, has_finding}

pub or_later : (a b c : Bool) → (b ≡ true → c ≡ true) → (a || b) ≡ true → (a || c) ≡ true
or_later true b c so e = refl
or_later false b c so e = so e

any_log : (v : ℕ) (vats : List Found) → list_any (λ finding. finding.log.vat == v) vats ≡ true → list_any (λ log. log.vat == v) (logs_of vats) ≡ true
any_log v [] e = e
any_log v (found ∷ vats) e =
    or_later (found.log.vat == v) (list_any (λ finding. finding.log.vat == v) vats) (list_any (λ log. log.vat == v) (logs_of vats)) (any_log v vats) e

module _ (all : AllFound) (whole : AreAll all) (order : List ℕ) (run : List Step) (is : IsRunOf all.vats order run) where
  part_is : (log : Log) → Contains all.case.logs log → IsPart run log.vat (records_of log)
  part_is log held =
      let own = has_finding all whole log held in
      as_log (λ (l : Log) (limits : Limits). IsPart run l.vat (past_at (reads_within limits) l.records (length l.records))) own.found log own.same own.within
      (each_at (λ finding. IsPart run finding.log.vat (past_of finding)) all.vats is.parts.parts own.place own.found own.there)

  lives_are : (log : Log) → Contains all.case.logs log → Each UsesLives (records_of log)
  lives_are log held =
      let own = has_finding all whole log held in
      as_log (λ (l : Log) (limits : Limits). Each UsesLives (past_at (reads_within limits) l.records (length l.records))) own.found log own.same own.within
      (each_at (λ finding. Each UsesLives (past_of finding)) all.vats is.lives own.place own.found own.there)

  others_are_none : AllByRecursion (λ s. IsTrue (list_any (λ log. log.vat == vat_of s) all.case.logs)) run
  others_are_none =
      subst (λ (logs : List Log). AllByRecursion (λ s. IsTrue (list_any (λ log. log.vat == vat_of s) logs)) run) (logs_are all whole)
      (each_so (λ s. IsTrue (list_any (λ finding. finding.log.vat == vat_of s) all.vats)) (λ s. IsTrue (list_any (λ log. log.vat == vat_of s) (logs_of all.vats)))
      (λ s. any_log (vat_of s) all.vats) run is.parts.no_others)

  balanced_are : IsBalancedThroughout all.case.logs order
  balanced_are i k one other one_held other_held ends n =
      let its = has_finding all whole one one_held in
      let others = has_finding all whole other other_held in
      let there = subst (λ (logs : List Log). AreEnds logs k one other) (sym (logs_are all whole)) ends in
      let here = subst (λ (l : Log). AreEnds (logs_of all.vats) k l other) (sym its.same) there in
      let both = subst (λ (l : Log). AreEnds (logs_of all.vats) k its.found.log l) (sym others.same) here in
      let so = is.balanced i k its.found others.found (contained all.vats its.place its.found its.there) (contained all.vats others.place others.found others.there) both n in
      as_log (λ (l : Log) (limits : Limits). IsBalanced k n (past_at (reads_within limits) l.records (count_by (λ v. v == l.vat) (take i order))) (taken_of order i other)) its.found one its.same its.within
      (as_log (λ (l : Log) (limits : Limits). IsBalanced k n (past_at (reads_within its.found.limits) its.found.log.records (count_by (λ v. v == its.found.log.vat) (take i order)))
      (past_at (reads_within limits) l.records (count_by (λ v. v == l.vat) (take i order)))) others.found other others.same others.within so)

  pub explains : Explains all.case.logs order run
  explains = record {
    by_order = is.by_order;
    parts = part_is;
    no_others = others_are_none;
    legal = is.legal;
    linked = is.linked;
    reached = is.reached;
    lives = lives_are;
    connected = is.connected;
    balanced = balanced_are;
  }

-- ---- an order that fits is no longer than the logs

pub no_longer : (parts : List Part) (order : List ℕ) → FitsFrom parts order → length order ≤ left parts
no_longer parts [] fits = omega arith
no_longer parts (v ∷ order) fits =
    let rest = no_longer (after v parts) order fits.1 in
    let fewer = falls v parts fits.0 in
    omega (arith, rest, fewer)

pub left_at_first : (logs : List Log) → left (begin logs) ≡ records_in logs
left_at_first [] = refl
left_at_first (log ∷ logs) =
    let rest = left_at_first logs in
    let all = sum_by-cons (λ (l : Log). length l.records) log logs in
    omega (arith, rest, all)

-- ---- a vat comes up in it as often as its log has records

-- how many records are left in a part
abbrev rest_of : Option Part → ℕ
rest_of None = 0
rest_of (Some p) = length p.log.records - p.came

-- one record further
abbrev one_on : Part → Part
one_on p = record { log = p.log; came = p.came + 1 }

has_part : (v : ℕ) (ps : List Part) → may_come ps v ≡ true → (own : Part) × (part_of v ps ≡ Some own)
unfolding may_come
has_part v ps may = at (part_of v ps) may
  where
    at : (o : Option Part) → may_come_from v ps o ≡ true → (own : Part) × (o ≡ Some own)
    at None may = absurd (false≢true may)
    at (Some own) may = (own, refl)

part_moves : (v : ℕ) (ps : List Part) (own : Part) → part_of v ps ≡ Some own → part_of v (after v ps) ≡ Some (one_on own)
part_moves v [] own e = absurd cc
part_moves v (p ∷ ps) own e =
    elim (further_cases v p) [
      | inl stays ↦ rw (stays.0, stays.1) (part_moves v ps own (rw stays.1 at e))
      | inr moves ↦
          let same : (p.log.vat == v) ≡ true = eq-eqb p.log.vat v moves.1 in
          let is : p ≡ own = some_is p own (rw same at e) in
          rw (moves.0, same) (ap (λ (q : Part). Some (one_on q)) is)
    ]

as_often : (v : ℕ) (ps : List Part) (order : List ℕ) → FitsFrom ps order → length (filter (λ w. w == v) order) ≤ rest_of (part_of v ps)
as_often v ps [] fits = omega arith
as_often v ps (w ∷ order) fits =
    let later = as_often v (after w ps) order fits.1 in
    elim (cases_eq v w) [
      | inl same ↦
          let own = has_part w ps fits.0 in
          let own_v : part_of v ps ≡ Some own.0 = ap (λ (u : ℕ). part_of u ps) same ∙ own.1 in
          let moved : part_of v (after w ps) ≡ Some (one_on own.0) = ap (λ (u : ℕ). part_of v (after u ps)) (sym same) ∙ part_moves v ps own.0 own_v in
          let lt = has_left w ps own.0 fits.0 own.1 in
          let here : (w == v) ≡ true = eq-eqb w v (sym same) in
          let rest : length (filter (λ u. u == v) order) ≤ rest_of (Some (one_on own.0)) = subst (λ (o : Option Part). length (filter (λ u. u == v) order) ≤ rest_of o) moved later in
          subst (λ (o : Option Part). length (filter (λ u. u == v) (w ∷ order)) ≤ rest_of o) (sym own_v) (rw here (omega (arith, rest, lt)))
      | inr apart ↦
          let other : (w == v) ≡ false = eqb_apart w v (λ e. apart (sym e)) in
          let rest : length (filter (λ u. u == v) order) ≤ rest_of (part_of v ps) = subst (λ (o : Option Part). length (filter (λ u. u == v) order) ≤ rest_of o) (part_stays v w ps apart) later in
          rw other rest
    ]

rest_at_first : (v most : ℕ) (logs : List Log) → HoldsOfEach (λ log. length log.records ≤ most) logs → rest_of (part_of v (begin logs)) ≤ most
rest_at_first v most [] each = omega arith
rest_at_first v most (log ∷ logs) each =
    elim (bool_cases (log.vat == v)) [
      | inl same ↦ let own = each 0 log refl in rw same (omega (arith, own))
      | inr other ↦ rw other (rest_at_first v most logs (λ k. each (suc k)))
    ]

mapped_as_often : (v : ℕ) (run : List Step) → length (steps_of v run) ≡ length (filter (λ w. w == v) (map vat_of run))
mapped_as_often v [] = refl
mapped_as_often v (s ∷ run) =
    elim (bool_cases (vat_of s == v)) [
      | inl same ↦ rw same (ap suc (mapped_as_often v run))
      | inr other ↦ rw other (mapped_as_often v run)
    ]

pub few_steps : (logs : List Log) (order : List ℕ) (run : List Step) → IsFitting logs order → map vat_of run ≡ order → HoldsOfEach (λ log. length log.records ≤ 4294967295) logs → (v : ℕ) → length (steps_of v run) < 2 ^ 32
few_steps logs order run fits by_order each v =
    let own = mapped_as_often v run in
    let by = ap (λ (vats : List ℕ). length (filter (λ w. w == v) vats)) by_order in
    let often = as_often v (begin logs) order fits in
    let most = rest_at_first v 4294967295 logs each in
    omega (arith, own, by, often, most)

-- ---- what is answered of a run

module _ (all : AllFound) (good : AreGoodFindings all) (vats : List Found) (same : vats ≡ all.vats) (order : List ℕ) (run : List Step) (fits : IsFitting all.case.logs order)
    (is : IsRunOf vats order run) (given : Option (List ℕ)) (by : IsOrderFor all.case.logs given order) where
  run_is : IsRunOf all.vats order run
  run_is = subst (λ (vs : List Found). IsRunOf vs order run) same is

  pub early_report : (fault : Option (ℕ × ℕ)) (vat at : ℕ) → IsOrderFault run fault → fault ≡ Some (vat, at) → IsGoodCase all.case × IsEarlyAt all.case.logs given vat at
  early_report fault vat at early same_fault = (
    good_case all good,
    record {
      order = order;
      by = by;
      fits = fits;
      run = run;
      explained = explains all good.whole order run run_is;
      early = subst (IsOrderFault run) same_fault early;
    },
  )

  pub yes_report : (fault : Option (ℕ × ℕ)) (answer : Report) → IsOrderFault run fault → fault ≡ None
      → answer ≡ report.Yes (length all.case.logs) (records_in all.case.logs) (count_all records_delivery all.case.logs) (count_all sends all.case.logs - count_all receives all.case.logs) run
      → IsReport all.case given answer
  yes_report fault answer ordered none is_yes =
      subst (IsReport all.case given) (sym is_yes) (
        good_case all good,
        record {
          order = order;
          by = by;
          fits = fits;
          headline = record { explained = explains all good.whole order run run_is; ordered = subst (IsOrderFault run) none ordered };
          vats_are = refl;
          records_are = refl;
          delivered_are = refl;
          under_way_are = refl;
        },
      )

-- a yes with the same counts is the same
pub same_yes : {a b c d e f g h : ℕ} → a ≡ b → c ≡ d → e ≡ f → g ≡ h → (run : List Step) → report.Yes a c e g run ≡ report.Yes b d f h run
same_yes vats records delivered under_way run = rw (vats, records, delivered, under_way) refl
