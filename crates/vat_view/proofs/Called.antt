-- The table of calls after a record.
use Rattle.std.proofs.Common.{◌≡◌, inl, inr, refl, sym, ◌∙◌, ap, ap₂, subst, ℕ, ◌==◌, ◌∷◌, Bool, true, false, ◌||◌, Option, Some, None, if◌then◌else◌}
use Rattle.std.specs.Prelude.{option_and_then, unwrap_or}
use Rattle.std.proofs.lemmas.Bool.{cases_Bool, eqb-true}
use Rattle.number_tables.specs.declared.question_table.Questions.{Questions}
use Rattle.number_tables.specs.declared.exports_imports.ExportsImports.{ExportsImports}
use Rattle.vat_view.specs.declared.tables.references.BoundReferences.{BoundReferences}
use Rattle.number_tables.specs.declared.call_table.Calls.{Calls}
use Rattle.number_tables.specs.declared.call_state.CallState.{CallState}
use Rattle.vat_view.specs.Glue.CallTables.{CallEffect, Begins, asked_of, call_state_of, effect_by, effect_of, after_effect}
use Rattle.vat_view.specs.Types.{DecodedRecord}
use Rattle.decoded_records.specs.Past.{Past}
use Rattle.decoded_records.specs.Questions.{is_late, call_at, opening}
use Rattle.decoded_records.specs.Views.{view_of_reference, view_of_target}
use Rattle.decoded_records.specs.Calls.{request_of, goal_of, is_at_vat, is_served, is_settled, is_known, has_passed, boots, call_taken_from}
use Rattle.decoded_records.specs.Bindings.{is_bound_call}
use Rattle.vat_view.specs.Sound.{IsSound}
use Rattle.number_tables.specs.Glue.QuestionTables.{question_at, late_by, opening_call_in}
use Rattle.vat_view.specs.Glue.Tables.{bound_at, AreTabled}
use Rattle.vat_view.specs.Glue.Asking.{targeted_by, taken_from_by}
use Rattle.number_tables.specs.Glue.CallStates.{call_state_at, request_in, goal_in, at_vat_in, served_in, settled_in, known_in}
use Rattle.vat_view.specs.Glue.Kept.{AreKept}
use Rattle.vat_view.proofs.Answering.{targeted_known, late_is, taken_from_known, opening_call_known}
use Rattle.vat_view.proofs.Calling.{news_same, progress_step, begins_unbound}
use Rattle.vat_view.proofs.Unbound.{IsUnknown, unknown}

module _ (before : Past) (questions : Questions) (lives : ExportsImports) (bound : BoundReferences) (calls : Calls) (kept : AreKept before questions lives bound calls)
    (e : DecodedRecord) (sound : IsSound before e) (n : CallEffect) (is_news : n ≡ effect_by (bound_at bound) lives (question_at questions) e) where
  news_is : n ≡ effect_of before e
  news_is = is_news
      ∙ news_same (bound_at bound) (view_of_reference before) (targeted_by (bound_at bound) lives (question_at questions) e) (view_of_target before e) (late_by (question_at questions) e) (is_late before e)
      (taken_from_by (question_at questions) e) (call_taken_from before e) (λ q. opening_call_in (question_at questions q)) (λ q. call_at (opening q before)) kept.tabled.bounds (targeted_known before questions lives bound calls kept e)
      (late_is before questions lives bound calls kept e) (taken_from_known before questions lives bound calls kept e) (λ q. opening_call_known before questions lives bound calls kept q) e

  -- it was told
  pub kept_after : (told_questions : Questions) (counted : ExportsImports) (more : BoundReferences) (after : Calls) → AreTabled (e ∷ before) told_questions counted more →
      ((c : ℕ) → call_state_at after c ≡ after_effect n c (call_state_at calls c)) → AreKept (e ∷ before) told_questions counted more after
  kept_after told_questions counted more after tabled changed = record {
    sound = (sound, kept.sound);
    tabled = tabled;
    called = λ c. changed c ∙ ap₂ (λ n p. after_effect n c p) news_is (kept.called c) ∙ sym (progress_step c before kept.sound e sound.refers);
  }

  -- memory was refused, and the call that was begun is forgotten
  pub forgotten : (told_questions : Questions) (counted : ExportsImports) (more : BoundReferences) (begun less : Calls) (d : ℕ) (p : CallState) → n ≡ Begins d p → AreTabled before told_questions counted more →
      ((c : ℕ) → call_state_at begun c ≡ (if d == c then Some p else call_state_at calls c)) → ((c : ℕ) → call_state_at less c ≡ (if d == c then None else call_state_at begun c)) →
      AreKept before told_questions counted more less
  forgotten told_questions counted more begun less d p is_begun tabled begins forgets = record {
    sound = kept.sound;
    tabled = tabled;
    called = λ c. elim (cases_Bool (d == c)) [
      | inl same ↦ forgets c ∙ ap (λ b. if b then None else call_state_at begun c) same
          ∙ sym (unbound c (subst (λ x. is_bound_call before x ≡ false) (eqb-true d c same) (begins_unbound before e sound.refers d p (sym news_is ∙ is_begun))))
      | inr apart ↦ forgets c ∙ ap (λ b. if b then None else call_state_at begun c) apart ∙ begins c ∙ ap (λ b. if b then Some p else call_state_at calls c) apart ∙ kept.called c
    ];
  }
    where
      unbound : (c : ℕ) → is_bound_call before c ≡ false → call_state_of c before ≡ None
      unbound c h = ap (λ b. if b then Some (record { asked = asked_of c before; at_vat = is_at_vat c before; served = is_served c before; settled = is_settled c before; known = is_known c before }) else None) h

-- ---- what is asked of a call

abbrev so_far : ℕ → Past → Bool → Option CallState
so_far c past b = if b then Some (record { asked = asked_of c past; at_vat = is_at_vat c past; served = is_served c past; settled = is_settled c past; known = is_known c past }) else None

module _ (past : Past) (questions : Questions) (lives : ExportsImports) (bound : BoundReferences) (calls : Calls) (kept : AreKept past questions lives bound calls) (c : ℕ) where
  either : {A : Type 0} (f : Option CallState → A) (x : A) → f (so_far c past true) ≡ x → (IsUnknown c past → f (so_far c past false) ≡ x) → f (call_state_at calls c) ≡ x
  either f x there nowhere = ap (λ p. f p) (kept.called c) ∙ elim (cases_Bool (is_bound_call past c)) [
    | inl good ↦ ap (λ b. f (so_far c past b)) good ∙ there
    | inr bad ↦ ap (λ b. f (so_far c past b)) bad ∙ nowhere (unknown past kept.sound c bad)
  ]

  asked_so : request_in (call_state_at calls c) ≡ asked_of c past
  asked_so = either (λ p. request_in p) (asked_of c past) refl (λ u. sym (ap (λ o. if unwrap_or o false then request_of c past else None) u.moved))

  -- of a call that is at the vat
  pub asked_known : is_at_vat c past ≡ true → request_in (call_state_at calls c) ≡ request_of c past
  asked_known here = asked_so ∙ ap (λ b. if b then request_of c past else None) here

  pub goal_known : is_at_vat c past ≡ true → goal_in (call_state_at calls c) ≡ goal_of c past
  goal_known here = ap (λ a. option_and_then (λ a. a.goal) a) (asked_known here)

  pub at_vat_known : at_vat_in (call_state_at calls c) ≡ is_at_vat c past
  at_vat_known = either (λ p. at_vat_in p) (is_at_vat c past) refl (λ u. sym (ap (λ o. unwrap_or o false) u.moved))

  pub served_known : served_in (call_state_at calls c) ≡ is_served c past
  served_known = either (λ p. served_in p) (is_served c past) refl (λ u. sym (ap (λ b. b || has_passed (boots c) past) u.delivered ∙ u.booted))

  pub settled_known : settled_in (call_state_at calls c) ≡ is_settled c past
  settled_known = either (λ p. settled_in p) (is_settled c past) refl (λ u. sym u.settled)

  pub known_known : known_in (call_state_at calls c) ≡ is_known c past
  known_known = either (λ p. known_in p) (is_known c past) refl (λ u. sym u.known)
