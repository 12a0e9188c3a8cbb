-- Two orders of the same findings give one order fault and the same edges.
use Rattle.std.proofs.Common.{◌≡◌, refl, sym, ◌∙◌, ap, subst, ℕ, List, [], ◌∷◌, reverse, true, false, Option, Some, None, option_and_then, option_map, inl, inr}
use Rattle.std.specs.Prelude.{map}
use Rattle.std.proofs.lemmas.List.{reverse-reverse}
use Rattle.agree.specs.Rows.{Row, log_of_vat}
use Rattle.vat_rules.specs.Audit.{Found}
use Rattle.decoded_records.specs.Bindings.{Refers}
use Rattle.decoded_records.specs.Past.{Past, Each}
use Rattle.decoded_records.specs.Views.{view_of_reference}
use Rattle.vat_view.proofs.Lasting.{view_step}
use Rattle.call_trace.specs.Findings.{AreTrue, MayBeNamed}
use Rattle.call_trace.specs.Named.{IsRunOf}
use Rattle.call_trace.specs.Naming.{naming, cap_named}
use Rattle.call_trace.specs.Part.{reference_named, promise_in, result_named, Says, PairsOff}
use Rattle.call_trace.specs.Running.{steps_by, IsNamedRow, MayRun}
use Rattle.call_trace.specs.Said.{all_there, message_of_record}
use Rattle.call_trace.specs.Taking.{finding_of, row_of}
use Rattle.call_trace.specs.Types.{DecodedRecord, Host, Vow, Fulfil, Break, Make, Field, Deliver, Answer, AnswerBy, Fault, Wire, Cap, Step}
use Rattle.call_trace.proofs.Naming.{mapped_is, then_is, cap_step}
use Rattle.call_trace.proofs.Next.{may_run, logs_good}
use Rattle.call_trace.proofs.Running.{refers_all}
use Rattle.call_trace.proofs.Reordering.{IsDone, same_steps}
use Rattle.call_trace.proofs.Single.{named_row, run_taken}
use Rattle.call_trace.proofs.Sharing.{found_in, whole_log}
use Rattle.call_trace.proofs.Taking.{no_log}
use Rattle.run_model.specs.Early.{IsOrderFault}
use Rattle.run_model.specs.Edges.{Edge, AreEdges}
use Rattle.run_model.specs.Reordered.{HaveSameSteps, MakesThrough, KeepsReferences}
use Rattle.run_model.specs.Steps.{OneOf, steps_of}
use Rattle.run_model.proofs.Reordering.{steps_turned, one_of_own, own_through, keeps_turned, same_fault, same_edges, one_fault, one_graph}
use Rattle.run_model.specs.declared.cap.Cap.TheVariants as cap
use Rattle.run_model.specs.declared.step.Step.TheVariants as step

-- ---- a reference stands for one cap

some_step : (s t : Step) → ◌≡◌ {A = Option Step} (Some s) (Some t) → s ≡ t
some_step s t h = cc

some_cap : (a b : Cap) → ◌≡◌ {A = Option Cap} (Some a) (Some b) → a ≡ b
some_cap a b h = cc

-- a reference that has a name keeps it
reference_step : (v : ℕ) (es : Past) (steps : List Step) (e : DecodedRecord) (s : Step) → Refers es e → (r : ℕ) (a : Cap) → reference_named (naming v es steps) es r ≡ Some a →
    reference_named (naming v (e ∷ es) (s ∷ steps)) (e ∷ es) r ≡ Some a
reference_step v es steps e s refers r a h =
    let view = then_is (cap_named v es steps) (view_of_reference es r) a h in
    ap (option_and_then (cap_named v (e ∷ es) (s ∷ steps))) (view_step es e r view.0 refers view.1) ∙ cap_step v es e steps s view.0 a refers view.2

-- a call is made through the cap that its reference is named
made_now : (v : ℕ) (es : Past) (steps : List Step) (e : DecodedRecord) (s : Step) → Says v es steps e s → Refers es e → (r : ℕ) (a : Cap) → MakesThrough v r a s →
    reference_named (naming v (e ∷ es) (s ∷ steps)) (e ∷ es) r ≡ Some a
made_now v es steps (Make c q interface method) s says refers r a made =
    let e = Make c q interface method in
    let to = mapped_is (λ to. step.Make v c to q interface method) (reference_named (naming v (e ∷ es) (s ∷ steps)) es q) s says in
    let is : MakesThrough v r a (step.Make v c to.0 q interface method) = subst (MakesThrough v r a) (sym to.2) made in
    let view = then_is (cap_named v (e ∷ es) (s ∷ steps)) (view_of_reference es q) to.0 to.1 in
    ap (λ q. reference_named (naming v (e ∷ es) (s ∷ steps)) (e ∷ es) q) (sym is.1)
    ∙ ap (option_and_then (cap_named v (e ∷ es) (s ∷ steps))) (view_step es e q view.0 refers view.1) ∙ view.2 ∙ ap (λ x. Some x) is.2
made_now v es steps (Host o object) s says refers r a made = absurd (subst (MakesThrough v r a) (sym (some_step (step.Host v object) s says)) made)
made_now v es steps (Vow p) s says refers r a made = absurd (subst (MakesThrough v r a) (sym (some_step (step.Vow v p) s says)) made)
made_now v es steps (Fulfil p to) s says refers r a made =
    let names = naming v (Fulfil p to ∷ es) (s ∷ steps) in
    let q = then_is (λ q. option_map (λ c. step.Fulfil v q c) (reference_named names es to)) (promise_in (view_of_reference es p)) s says in
    let c = mapped_is (λ c. step.Fulfil v q.0 c) (reference_named names es to) s q.2 in
    absurd (subst (MakesThrough v r a) (sym c.2) made)
made_now v es steps (Break p) s says refers r a made =
    absurd (subst (MakesThrough v r a) (sym (mapped_is (λ q. step.Break v q) (promise_in (view_of_reference es p)) s says).2) made)
made_now v es steps (Field f c path) s says refers r a made =
    let names = naming v (Field f c path ∷ es) (s ∷ steps) in
    absurd (subst (MakesThrough v r a) (sym (mapped_is (λ name. step.Name v (cap.Field name path)) (names.call c) s says).2) made)
made_now v es steps (Deliver c object) s says refers r a made =
    let names = naming v (Deliver c object ∷ es) (s ∷ steps) in absurd (subst (MakesThrough v r a) (sym (mapped_is (λ name. step.Deliver v name object) (names.call c) s says).2) made)
made_now v es steps (Answer c results) s says refers r a made =
    let names = naming v (Answer c results ∷ es) (s ∷ steps) in
    let name = then_is (λ name. option_map (λ caps. step.Answer v name caps) (all_there (map (result_named names es) results))) (names.call c) s says in
    absurd (subst (MakesThrough v r a) (sym (mapped_is (λ caps. step.Answer v name.0 caps) (all_there (map (result_named names es) results)) s name.2).2) made)
made_now v es steps (AnswerBy c by) s says refers r a made =
    let names = naming v (AnswerBy c by ∷ es) (s ∷ steps) in
    let name = then_is (λ name. option_map (λ other. step.AnswerBy v name other) (names.call by)) (names.call c) s says in
    absurd (subst (MakesThrough v r a) (sym (mapped_is (λ other. step.AnswerBy v name.0 other) (names.call by) s name.2).2) made)
made_now v es steps (Fault c) s says refers r a made =
    let names = naming v (Fault c ∷ es) (s ∷ steps) in absurd (subst (MakesThrough v r a) (sym (mapped_is (λ name. step.Fault v name) (names.call c) s says).2) made)
made_now v es steps (Wire true k c rs m) s says refers r a made =
    let e = Wire true k c rs m in absurd (subst (MakesThrough v r a) (sym (mapped_is (λ M. step.Send v k M) (message_of_record (naming v (e ∷ es) (s ∷ steps)) es e) s says).2) made)
made_now v es steps (Wire false k c rs m) s says refers r a made = absurd (subst (MakesThrough v r a) says.step made)

made_named : (v : ℕ) (es : Past) (steps : List Step) → PairsOff v es steps → Each Refers es → (r : ℕ) (a : Cap) → OneOf (MakesThrough v r a) steps → reference_named (naming v es steps) es r ≡ Some a
made_named v [] [] part refers r a h = absurd h
made_named v [] (s ∷ steps) part refers r a h = absurd part
made_named v (e ∷ es) [] part refers r a h = absurd part
made_named v (e ∷ es) (s ∷ steps) part refers r a (inl now) = made_now v es steps e s part.0 refers.0 r a now
made_named v (e ∷ es) (s ∷ steps) part refers r a (inr old) = reference_step v es steps e s refers.0 r a (made_named v es steps part.1 refers.1 r a old)

keeps_references : (row : Row) (before : List Step) → MayRun row → IsNamedRow row before → KeepsReferences before
keeps_references row before run named v r a b h k = some_cap a b (sym (cap_is a h) ∙ cap_is b k)
  where
    cap_is : (c : Cap) → OneOf (MakesThrough v r c) before → reference_named (naming v (log_of_vat v row) (steps_by v before)) (log_of_vat v row) r ≡ Some c
    cap_is c there =
        made_named v (log_of_vat v row) (steps_by v before) (named.paired v) (refers_all (log_of_vat v row) (logs_good v row run.good)) r c
        (one_of_own v (MakesThrough v r c) (own_through v r c) before there)

-- ---- two orders take the same logs

same_logs : (findings : List Found) (order other : List ℕ) → AreTrue findings → MayBeNamed findings order → MayBeNamed findings other → (v : ℕ) →
    log_of_vat v (row_of findings order) ≡ log_of_vat v (row_of findings other)
same_logs findings order other true_all asked asked_too v = at (finding_of v findings) refl
  where
    at : (o : Option Found) → finding_of v findings ≡ o → log_of_vat v (row_of findings order) ≡ log_of_vat v (row_of findings other)
    at None none = no_log findings v none (reverse order) ∙ sym (no_log findings v none (reverse other))
    at (Some f) found =
        let r = found_in v findings f found in
        subst (λ u. log_of_vat u (row_of findings order) ≡ log_of_vat u (row_of findings other)) r.0 (whole_log findings order true_all asked f r.1 ∙ sym (whole_log findings other true_all asked_too f r.1))

-- ---- and their runs

is_done : (findings : List Found) (order : List ℕ) → AreTrue findings → MayBeNamed findings order → (run : List Step) → IsRunOf findings order run → IsDone (row_of findings order) (reverse run)
is_done findings order true_all asked run is = record { takes = run_taken findings order true_all asked run is; named = named_row findings order true_all asked run is }

pub references_kept : (findings : List Found) (order : List ℕ) → AreTrue findings → MayBeNamed findings order → (run : List Step) → IsRunOf findings order run → KeepsReferences run
references_kept findings order true_all asked run is =
    subst KeepsReferences (reverse-reverse run)
    (keeps_turned (reverse run) (keeps_references (row_of findings order) (reverse run) (may_run findings order true_all asked) (named_row findings order true_all asked run is)))

turned_back : {A : Type 0} (xs ys : List A) → reverse xs ≡ reverse ys → xs ≡ ys
turned_back xs ys h = sym (reverse-reverse xs) ∙ ap reverse h ∙ reverse-reverse ys

module _ (findings : List Found) (order other : List ℕ) (true_all : AreTrue findings) (asked : MayBeNamed findings order) (asked_too : MayBeNamed findings other) (run other_run : List Step)
    (is : IsRunOf findings order run) (is_too : IsRunOf findings other other_run) where
  same_steps_by : (v : ℕ) → steps_by v (reverse run) ≡ steps_by v (reverse other_run)
  same_steps_by =
      same_steps (row_of findings order) (row_of findings other) (may_run findings order true_all asked) (may_run findings other true_all asked_too)
      (same_logs findings order other true_all asked asked_too) (reverse other_run) (is_done findings other true_all asked_too other_run is_too) (reverse run)
      (is_done findings order true_all asked run is)

  pub have_same_steps : HaveSameSteps run other_run
  have_same_steps v = turned_back (steps_of v run) (steps_of v other_run) (sym (steps_turned v run) ∙ same_steps_by v ∙ steps_turned v other_run)

  pub one_order_fault : (place other_place : Option (ℕ × ℕ)) → IsOrderFault run place → IsOrderFault other_run other_place → place ≡ other_place
  one_order_fault place other_place fault fault_too =
      one_fault other_run place other_place
      (same_fault run other_run is.legal is.linked is_too.legal is_too.linked (references_kept findings order true_all asked run is) have_same_steps place fault) fault_too

  pub one_list_of_edges : (edges other_edges : List Edge) → AreEdges run edges → AreEdges other_run other_edges → edges ≡ other_edges
  one_list_of_edges edges other_edges are are_too = one_graph other_run edges other_edges (same_edges run other_run have_same_steps edges are) are_too
