-- Findings have one run by an order: in it each record takes its step.
use Rattle.std.proofs.Common.{◌≡◌, refl, sym, ◌∙◌, ap, subst, ℕ, ◌==◌, List, [], ◌∷◌, reverse, Bool, true, false, ◌||◌, Option, Some, None, if◌then◌else◌, option_and_then, option_map, eqb-true}
use Rattle.std.specs.Prelude.{map, IsTrue}
use Rattle.std.specs.List.{list_any, AllByRecursion}
use Rattle.std.proofs.lemmas.List.{reverse-reverse}
use Rattle.agree.specs.Rows.{Row, log_of_vat}
use Rattle.vat_rules.specs.Audit.{Found}
use Rattle.vat_rules.specs.OfCaps.{is_received}
use Rattle.call_trace.specs.Findings.{AreTrue, MayBeNamed}
use Rattle.call_trace.specs.Named.{past_of, IsRunOf}
use Rattle.call_trace.specs.Naming.{naming}
use Rattle.call_trace.specs.Part.{reference_named, Says, PairsOff, IsPart}
use Rattle.call_trace.specs.Running.{step_received, step_of, steps_by, steps_of_row, IsNamedRow, MayRun}
use Rattle.call_trace.specs.Said.{all_there}
use Rattle.call_trace.specs.Taking.{finding_of, row_of}
use Rattle.call_trace.specs.Types.{RpcMessage, DecodedRecord, Host, Wire, Step}
use Rattle.call_trace.proofs.Carrying.{named_next}
use Rattle.call_trace.proofs.Fitting.{member}
use Rattle.call_trace.proofs.Next.{may_run, run_before}
use Rattle.call_trace.proofs.Running.{references_alike, within_row, good_now}
use Rattle.call_trace.proofs.Sayable.{says_taken}
use Rattle.call_trace.proofs.Sharing.{found_in, whole_log}
use Rattle.call_trace.proofs.Taking.{no_log}
use Rattle.call_trace.proofs.Whole.{all_turned, map_turned, vats_taken}
use Rattle.run_model.specs.Links.{IsLinked}
use Rattle.run_model.specs.Steps.{vat_of, steps_of}
use Rattle.run_model.specs.declared.step.Step.TheVariants as step

-- ---- each record takes the step that it says

module _ (v : ℕ) (row : Row) (before : List Step) where
  received_taken : (k c : ℕ) (rs : List ℕ) (m : RpcMessage) (s : Step) → Says v (log_of_vat v row) (steps_by v before) (Wire false k c rs m) s → IsLinked before s →
      step_of v (log_of_vat v row) (steps_by v before) before (Wire false k c rs m) ≡ Some s
  received_taken k c rs m s says linked =
      let e : DecodedRecord = Wire false k c rs m in
      let es = log_of_vat v row in
      let steps = steps_by v before in
      let comes = subst (IsLinked before) says.step linked in
      let binds = subst (λ s. all_there (map (reference_named (naming v (e ∷ es) (s ∷ steps)) (e ∷ es)) rs) ≡ Some says.bound) says.step says.binds in
      ap (λ o. option_and_then (step_received v es steps e k rs) o) comes.1
      ∙ ap (λ o. option_map (λ bound. step.Receive v k says.message bound) o) (ap all_there (references_alike v k c rs m says.message [] says.bound es steps (e ∷ es) rs) ∙ binds)
      ∙ ap (λ s. Some s) (sym says.step)

  own_taken : (e : DecodedRecord) (s : Step) → MayRun ((v, e) ∷ row) → IsNamedRow row before → is_received e ≡ false → Says v (log_of_vat v row) (steps_by v before) e s →
      step_of v (log_of_vat v row) (steps_by v before) before e ≡ Some s
  own_taken e s run named own says =
      let good = good_now v e row run in says_taken v (log_of_vat v row) (steps_by v before) before e s (within_row v row before good.0 named) good.0 good.1 own says

  says_it : (e : DecodedRecord) (s : Step) → MayRun ((v, e) ∷ row) → IsNamedRow row before → Says v (log_of_vat v row) (steps_by v before) e s → IsLinked before s →
      step_of v (log_of_vat v row) (steps_by v before) before e ≡ Some s
  says_it (Wire false k c rs m) s run named says linked = received_taken k c rs m s says linked
  says_it (Host r object) s run named says linked = own_taken (Host r object) s run named refl says
  says_it e s run named says linked = own_taken e s run named refl says

pub row_taken : (row : Row) (before : List Step) → MayRun row → IsNamedRow row before → steps_of_row row ≡ Some before
row_taken [] [] run named = refl
row_taken [] (s ∷ before) run named = absurd (let by = named.by_row in let no : ⊥ = cc in no)
row_taken ((v, e) ∷ row) before run named =
    let n = named_next v e row before named in
    ap (λ o. option_and_then (λ before. option_map (λ s. s ∷ before) (step_of v (log_of_vat v row) (steps_by v before) before e)) o)
    (row_taken row n.before (run_before ((v, e) ∷ row) row ((v, e) ∷ [], refl) run) n.rest)
    ∙ ap (λ o. option_map (λ s. s ∷ n.before) o) (says_it v row n.before e n.step run n.rest n.says n.linked) ∙ ap (λ l. Some l) (sym n.all)

-- ---- a run of findings is named by their row

none_any : (v : ℕ) (findings : List Found) → finding_of v findings ≡ None → list_any (λ f. f.log.vat == v) findings ≡ false
none_any v [] none = refl
none_any v (f ∷ findings) none = at (f.log.vat == v) none (none_any v findings)
  where
    at : (b : Bool) → (if b then Some f else finding_of v findings) ≡ None → (finding_of v findings ≡ None → list_any (λ f. f.log.vat == v) findings ≡ false) →
        (b || list_any (λ f. f.log.vat == v) findings) ≡ false
    at true none rest = absurd (let no : ⊥ = cc in no)
    at false none rest = rest none

no_steps_by : (v : ℕ) (findings : List Found) → finding_of v findings ≡ None → (steps : List Step) → AllByRecursion (λ s. IsTrue (list_any (λ f. f.log.vat == vat_of s) findings)) steps → steps_by v steps ≡ []
no_steps_by v findings none [] all = refl
no_steps_by v findings none (s ∷ steps) all = at (vat_of s == v) refl (no_steps_by v findings none steps all.1)
  where
    at : (b : Bool) → (vat_of s == v) ≡ b → steps_by v steps ≡ [] → (if b then s ∷ steps_by v steps else steps_by v steps) ≡ []
    at false apart rest = rest
    at true own rest =
        let any : list_any (λ f. f.log.vat == v) findings ≡ true = subst (λ u. list_any (λ f. f.log.vat == u) findings ≡ true) (eqb-true (vat_of s) v own) all.0 in
        let no : true ≡ false = sym any ∙ none_any v findings none in
        absurd (let n : ⊥ = cc in n)

module _ (findings : List Found) (order : List ℕ) (true_all : AreTrue findings) (asked : MayBeNamed findings order) where
  module _ (run : List Step) (is : IsRunOf findings order run) where
    pairs : (v : ℕ) → PairsOff v (log_of_vat v (row_of findings order)) (steps_by v (reverse run))
    pairs v = at (finding_of v findings) refl
      where
        at : (o : Option Found) → finding_of v findings ≡ o → PairsOff v (log_of_vat v (row_of findings order)) (steps_by v (reverse run))
        at None none =
            subst (λ es. PairsOff v es (steps_by v (reverse run))) (sym (no_log findings v none (reverse order)))
            (subst (PairsOff v []) (sym (no_steps_by v findings none (reverse run) (all_turned (λ s. IsTrue (list_any (λ f. f.log.vat == vat_of s) findings)) run is.parts.no_others))) tt)
        at (Some f) found =
            let r = found_in v findings f found in
            subst (λ u. PairsOff u (log_of_vat u (row_of findings order)) (steps_by u (reverse run))) r.0
            (subst (λ es. PairsOff f.log.vat es (steps_of f.log.vat (reverse run))) (sym (whole_log findings order true_all asked f r.1))
            (member findings f (λ f. IsPart run f.log.vat (past_of f)) is.parts.parts r.1))

    pub named_row : IsNamedRow (row_of findings order) (reverse run)
    named_row = record {
      by_row = map_turned vat_of run ∙ ap reverse is.by_order ∙ sym (vats_taken findings order true_all asked (reverse order) ([], refl));
      paired = pairs;
      legal = is.legal;
      linked = is.linked;
    }

    pub run_taken : steps_of_row (row_of findings order) ≡ Some (reverse run)
    run_taken = row_taken (row_of findings order) (reverse run) (may_run findings order true_all asked) named_row

  pub one_run : (run other : List Step) → IsRunOf findings order run → IsRunOf findings order other → run ≡ other
  one_run run other is is_too =
      let same : ◌≡◌ {A = Option (List Step)} (Some (reverse run)) (Some (reverse other)) = sym (run_taken run is) ∙ run_taken other is_too in
      let turned : reverse run ≡ reverse other = cc in sym (reverse-reverse run) ∙ ap reverse turned ∙ reverse-reverse other
