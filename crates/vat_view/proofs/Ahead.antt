-- The references ahead, after a record and where it is refused.
use Rattle.std.proofs.Common.{◌≡◌, refl, sym, ◌∙◌, ap, ap₂, ℕ, inl, inr, [], ◌∷◌, Bool, true, false, Option, Some, None, if◌then◌else◌, option_map, option_and_then, IsTrue}
use Rattle.std.specs.Prelude.{is_some}
use Rattle.std.specs.Option.{option_or}
use Rattle.std.proofs.lemmas.Bool.{and_parts, cases_Bool, false≢true, eqb-true}
use Rattle.number_tables.specs.declared.question_table.Questions.{Questions}
use Rattle.number_tables.specs.declared.exports_imports.ExportsImports.{ExportsImports}
use Rattle.number_tables.specs.declared.call_table.Calls.{Calls}
use Rattle.vat_view.specs.declared.tables.turns.settlements.Settlements.{Settlements}
use Rattle.vat_view.specs.declared.tables.turns.settlements.Settling.{Settling}
use Rattle.vat_view.specs.declared.walks.landing.Landing.{Landing}
use Rattle.vat_view.specs.declared.tables.references.BoundReferences.{BoundReferences}
use Rattle.vat_view.specs.declared.tables.references.Shortcut.{Shortcut}
use Rattle.vat_view.specs.declared.record.unsettled.Unsettled.{Unsettled}
use Rattle.vat_view.specs.declared.record.unsettled.Unsettled.TheVariants.{Promise as PromiseToKeep, Results as ResultsOf, Import as ImportToResolve}
use Rattle.vat_view.specs.Types.{DecodedRecord, View, Object, Promise, FieldOf, Import}
use Rattle.decoded_records.specs.Past.{Past}
use Rattle.decoded_records.specs.Bindings.{Refers}
use Rattle.vat_view.specs.Glue.Tables.{bound_at, AreBound}
use Rattle.vat_view.specs.Glue.TurnTables.{same_pending, Turning, landing_of, target_in, turned_in, number_in, settled_with, settled_at, waiting, settles, handing, handover_at, SaysSameTurns, IsNoted, by_handover, call_behind_by, turning_by, landed_by, turns_of, own_leap, ahead_at, call_ahead_in, IsOwnOrOld, IsOwnOrOldCall, HaveAhead}
use Rattle.decoded_records.specs.Glue.Parts.{field_path}
use Rattle.vat_view.specs.Glue.Kept.{AreKept}
use Rattle.vat_view.proofs.Walking.{cases_option, none_some}
use Rattle.vat_view.proofs.Lasting.{view_step}
use Rattle.vat_view.proofs.Binding.{none_ahead, then_ahead}
use Rattle.vat_view.proofs.Hopping.{own_ahead, own_call, turns_more, ahead_carried, calls_carried, calls_then}

-- tables of references with the same views
pub kept_views : (past : Past) (questions : Questions) (lives : ExportsImports) (old new : BoundReferences) (calls : Calls) → ((r : ℕ) → bound_at new r ≡ bound_at old r) →
    AreKept past questions lives old calls → AreKept past questions lives new calls
kept_views past questions lives old new calls same kept = record {
  sound = kept.sound;
  tabled = record { tabled = kept.tabled.tabled; bounds = λ r. same r ∙ kept.tabled.bounds r };
  called = kept.called;
}

-- ---- where a record is refused

module _ (table room : Settlements) (says : SaysSameTurns table room) where
  behind_same : (v : View) (k : ℕ) → call_behind_by table v k ≡ call_behind_by room v k
  behind_same (Object object) k = refl
  behind_same (Promise p) k = refl
  behind_same (FieldOf c path) k = ap (λ o. by_handover k o) (sym (says.handed c))
  behind_same (Import i place) k = refl

  turning_same : (v : View) → turning_by table v ≡ turning_by room v
  turning_same v = ap (λ o. option_map (λ s. (s.1, call_behind_by table v s.0)) o) (sym (says.settlers v)) ∙ inner (settled_at room v)
    where
      inner : (o : Option (ℕ × Option ℕ)) → option_map {U = Turning} (λ s. (s.1, call_behind_by table v s.0)) o ≡ option_map (λ s. (s.1, call_behind_by room v s.0)) o
      inner None = refl
      inner (Some s) = ap (λ by. Some (s.1, by)) (behind_same v s.0)

  landed_same : (v : View) → landed_by table v ≡ landed_by room v
  landed_same v = ap (λ o. option_and_then landing_of o) (turning_same v)

  -- so do views that turn
  pub turns_same : (old new : BoundReferences) → ((r : ℕ) (w : View) → bound_at old r ≡ Some w → bound_at new r ≡ Some w) → (v w : View) → turns_of table old v ≡ Some w → turns_of room new v ≡ Some w
  turns_same old new named = turns_more table room old new named (λ v l e. sym (landed_same v) ∙ e)

  pub ahead_refused : (bound : BoundReferences) → IsOwnOrOldCall table.handovers room.handovers → HaveAhead table bound → HaveAhead room bound
  ahead_refused bound less ahead =
      let named : (r : ℕ) (w : View) → bound_at bound r ≡ Some w → bound_at bound r ≡ Some w = λ r w e. e in
      let more : (v w : View) → turns_of table bound v ≡ Some w → turns_of room bound v ≡ Some w = turns_same bound bound named in (
        ahead_carried (turns_of table bound) (turns_of room bound) bound bound more named (none_ahead bound) ahead.0,
        calls_carried (turns_of table bound) (turns_of room bound) table.handovers room.handovers more less ahead.1,
      )

  pub ahead_unlearned : (past : Past) (old new : BoundReferences) → AreBound past old → AreBound past new → IsOwnOrOld old new → IsOwnOrOldCall table.handovers room.handovers →
      HaveAhead table old → HaveAhead room new
  ahead_unlearned past old new was is less calls ahead =
      let named : (r : ℕ) (w : View) → bound_at old r ≡ Some w → bound_at new r ≡ Some w = λ r w e. is r ∙ sym (was r) ∙ e in
      let more : (v w : View) → turns_of table old v ≡ Some w → turns_of room new v ≡ Some w = turns_same old new named in (
        ahead_carried (turns_of table old) (turns_of room new) old new more named less ahead.0,
        calls_carried (turns_of table old) (turns_of room new) table.handovers room.handovers more calls ahead.1,
      )

-- ---- after a record

same_is : (p q : Unsettled) → same_pending p q ≡ true → p ≡ q
same_is (PromiseToKeep p) (PromiseToKeep q) h = ap (λ x. PromiseToKeep x) (sym (eqb-true q p h))
same_is (ResultsOf c) (ResultsOf d) h = ap (λ x. ResultsOf x) (sym (eqb-true d c h))
same_is (ImportToResolve i place) (ImportToResolve j other) h =
    let parts = and_parts _ _ h in ap₂ (λ x y. ImportToResolve x y) (sym (eqb-true j i parts.0)) (sym (eqb-true other place parts.1))
same_is _ _ h = absurd (false≢true h)

-- a record that settles nothing again leaves what is settled
some_either : (s t o : Option ℕ) → is_some (settled_with s o) ≡ is_some (settled_with t o)
some_either s t None = refl
some_either s t (Some number) = refl

waits_so : (table : Settlements) (v : View) (q : Unsettled) → settles v (Some q) ≡ true → is_some (settled_at table v) ≡ is_some (settled_at table (waiting q))
waits_so table (Object object) q h = absurd (false≢true h)
waits_so table (Promise p) q h = ap (λ x. is_some (settled_at table (waiting x))) (same_is (PromiseToKeep p) q h)
waits_so table (FieldOf c path) q h =
    some_either (target_in path (turned_in table.turned c)) (target_in [] (turned_in table.turned c)) (number_in table.results c)
    ∙ ap (λ x. is_some (settled_at table (waiting x))) (same_is (ResultsOf c) q h)
waits_so table (Import i place) q h = ap (λ x. is_some (settled_at table (waiting x))) (same_is (ImportToResolve i place) q h)

settles_none : (v : View) → settles v None ≡ false
settles_none (Object object) = refl
settles_none (Promise p) = refl
settles_none (FieldOf c path) = refl
settles_none (Import i place) = refl

unsettled : (table : Settlements) (s : Option Unsettled) (v : View) (k : ℕ × Option ℕ) → is_some (option_and_then (λ p. settled_at table (waiting p)) s) ≡ false → settled_at table v ≡ Some k → settles v s ≡ false
unsettled table None v k h e = settles_none v
unsettled table (Some q) v k h e = elim (cases_Bool (settles v (Some q))) [
  | inl same ↦ absurd (false≢true (sym h ∙ sym (waits_so table v q same) ∙ ap (λ o. is_some o) e))
  | inr apart ↦ apart
]

module _ (before : Past) (e : DecodedRecord) (number : ℕ) (s : Settling) (table room more : Settlements) (says : SaysSameTurns table room) (noted : IsNoted s number room more) where
  module _ (once : is_some (option_and_then (λ p. settled_at room (waiting p)) s.settled) ≡ false) where
    apart : (v : View) (k : ℕ × Option ℕ) → settled_at table v ≡ Some k → settles v s.settled ≡ false
    apart v k at = unsettled room s.settled v k once (says.settlers v ∙ at)

    still_settled : (v : View) (k : ℕ × Option ℕ) → settled_at table v ≡ Some k → settled_at more v ≡ Some k
    still_settled v k at =
        noted.settlers v ∙ ap (λ b. if b then Some (number, target_in (field_path v) s.turned) else settled_at room v) (apart v k at) ∙ says.settlers v ∙ at

    still_behind : (v : View) (k : ℕ × Option ℕ) (n : ℕ) → settled_at table v ≡ Some k → call_behind_by more v n ≡ call_behind_by table v n
    still_behind (Object object) k n at = refl
    still_behind (Promise p) k n at = refl
    still_behind (FieldOf c path) k n at =
        ap (λ o. by_handover n o)
        (noted.handed c
        ∙ ap (λ b. if b then option_or (option_map (handing number) s.by) (handover_at room c) else handover_at room c) (apart (FieldOf c path) k at)
        ∙ says.handed c)
    still_behind (Import i place) k n at = refl

    still_lands : (v : View) (l : Landing) → landed_by table v ≡ Some l → landed_by more v ≡ Some l
    still_lands v l h = elim (cases_option (settled_at table v)) [
      | inl none ↦ absurd (none_some l (ap (λ o. option_and_then landing_of (option_map {U = Turning} (λ s. (s.1, call_behind_by table v s.0)) o)) (sym none) ∙ h))
      | inr k ↦
          ap (λ o. option_and_then landing_of (option_map {U = Turning} (λ s. (s.1, call_behind_by more v s.0)) o)) (still_settled v k.0 k.1)
          ∙ ap (λ by. landing_of (k.0.1, by)) (still_behind v k.0 k.0.0 k.1)
          ∙ ap (λ o. option_and_then landing_of (option_map {U = Turning} (λ s. (s.1, call_behind_by table v s.0)) o)) (sym k.1) ∙ h
    ]

  -- where what it settles was settled before, all that is ahead is dropped
  pub ahead_applied : (old mid new : BoundReferences) (again : Bool) → again ≡ is_some (option_and_then (λ p. settled_at room (waiting p)) s.settled) → Refers before e → AreBound before old →
      AreBound (e ∷ before) mid → ((r : ℕ) → bound_at new r ≡ bound_at mid r) → IsOwnOrOld old mid → IsOwnOrOld mid new →
      (IsTrue again → (r : ℕ) (q : Shortcut) → ahead_at new r ≡ Some q → q ≡ own_leap r) →
      IsOwnOrOldCall table.handovers room.handovers → (IsTrue again → (c : ℕ) (q : Shortcut) → call_ahead_in room.handovers c ≡ Some q → q ≡ own_leap c) → HaveAhead table old → HaveAhead more new
  ahead_applied old mid new again is_again refers was is views first second own calls own_calls ahead = elim (cases_Bool again) [
    | inl so ↦ (
      (λ r q h. own_ahead (turns_of more new) new r q h (own so r q h)),
      λ c q h. own_call (turns_of more new) c q (elim (noted.ahead c q h) [ inl earlier ↦ own_calls so c q earlier | inr itself ↦ itself ]),
    )
    | inr once ↦
        let named : (r : ℕ) (w : View) → bound_at old r ≡ Some w → bound_at new r ≡ Some w =
        λ r w h. views r ∙ is r ∙ view_step before e r w refers (sym (was r) ∙ h) in
        let on : (v w : View) → turns_of table old v ≡ Some w → turns_of more new v ≡ Some w = turns_more table more old new named (still_lands (sym is_again ∙ once)) in (
          ahead_carried (turns_of table old) (turns_of more new) old new on named (then_ahead old mid new first second) ahead.0,
          calls_carried (turns_of table old) (turns_of more new) table.handovers more.handovers on (calls_then table.handovers room.handovers more.handovers calls noted.ahead) ahead.1,
        )
  ]

-- whether a record settles again what was settled, by tables that say the same
pub again_same : (room dropped : Settlements) (s : Option Unsettled) (again : Bool) → SaysSameTurns room dropped → again ≡ is_some (option_and_then (λ p. settled_at room (waiting p)) s) →
    again ≡ is_some (option_and_then (λ p. settled_at dropped (waiting p)) s)
again_same room dropped (Some p) again same h = h ∙ ap (λ o. is_some o) (sym (same.settlers (waiting p)))
again_same room dropped None again same h = h
