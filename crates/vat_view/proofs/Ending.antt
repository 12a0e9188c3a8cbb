-- What the code's walks answer.
use Rattle.std.proofs.Common.{◌≡◌, ◌↔◌, ◌≤◌, refl, sym, ◌∙◌, ap, ℕ, suc, List, Bool, false, Option, Some, None, if◌then◌else◌, option_map, option_and_then, IsTrue, MatchOption, arith}
use Rattle.std.specs.Prelude.{is_none}
use Rattle.std.proofs.lemmas.Bool.{false≢true}
use Rattle.vat_view.specs.declared.tables.turns.settlements.Settlements.{Settlements}
use Rattle.number_tables.specs.declared.question_table.Questions.{Questions}
use Rattle.number_tables.specs.declared.exports_imports.ExportsImports.{ExportsImports}
use Rattle.vat_view.specs.declared.tables.references.BoundReferences.{BoundReferences}
use Rattle.vat_view.specs.Types.{View}
use Rattle.decoded_records.specs.Past.{Past}
use Rattle.vat_view.specs.Walks.{Next, stays, on_to, next, Leads, LeadsByTurns, IsEnd, turned_to}
use Rattle.vat_view.specs.Glue.Tables.{bound_at, AreTabled}
use Rattle.decoded_records.specs.Glue.Parts.{field_path}
use Rattle.vat_view.specs.Glue.TurnTables.{Turning, goes_to, AreSettled, settled_at, call_behind_by, goes_by, turn_by, most_turns, after_turns, Reaches, ReachesByTurns, EndsBy}
use Rattle.vat_view.proofs.Walking.{some_same, none_some, reached_none, reached_more, reached_same, one_last, endless, step, leads_reach, reached_leads, by_turns_reach, reached_by_turns}
use Rattle.vat_view.proofs.Settled.{goes_known}
use Rattle.vat_view.proofs.Bounded.{few, turn_number}

-- ---- by 1 or more turns

pub by_turns_some : (f : View → Option View) (a b c : View) (r : Bool) → Some b ≡ f a → (IsTrue r ↔ Reaches f b c) → IsTrue r ↔ ReachesByTurns f a c
by_turns_some f a b c r e h = (
  (λ x. let l = h.0 x in (l.0, ap (λ o. after_turns f l.0 o) (sym e) ∙ l.1)),
  λ l. h.1 (l.0, ap (λ o. after_turns f l.0 o) e ∙ l.1),
)

pub by_turns_none : (f : View → Option View) (a c : View) → None ≡ f a → IsTrue false ↔ ReachesByTurns f a c
by_turns_none f a c e = (
  (λ h. absurd (false≢true h)),
  λ l. absurd (none_some c (sym (reached_none f l.0) ∙ ap (λ o. after_turns f l.0 o) e ∙ l.1)),
)

-- ---- ends

on_to_moves : (o : Option View) → on_to o ≡ stays → ⊥
on_to_moves (Some v) e = let no : ⊥ = cc in no
on_to_moves None e = let no : ⊥ = cc in no

-- what was settled doesn't stay
settled_moves : (named : ℕ → Option View) (path : List ℕ) (s : Turning) → goes_to named path (Some s) ≡ stays → ⊥
settled_moves named path (r, Some by) h = let no : ⊥ = cc in no
settled_moves named path (r, None) h = on_to_moves (option_and_then named r) h

module _ {R : Type 0} (now : R → View) (table : Settlements) (bound : BoundReferences) where
  abbrev goings : View → Next
  goings v = goes_by table (bound_at bound) v

  abbrev turnings : View → Option View
  turnings v = turn_by table (bound_at bound) v

  -- where a view goes by how it was settled
  abbrev going_as : View → Option (ℕ × Option ℕ) → Next
  going_as v o = goes_to (bound_at bound) (field_path v) (option_map {U = Turning} (λ s. (s.1, call_behind_by table v s.0)) o)

  -- a view that turns no more is the end where nothing settled it, and else there is none
  pub ends_at : (a v : View) (t : ℕ) (o : Option R) → after_turns turnings t (Some a) ≡ Some v → None ≡ turnings v →
      option_map now o ≡ (if is_none (settled_at table v) then Some v else None) → MatchOption o ((w : View) → EndsBy goings a w → ⊥) (λ r. EndsBy goings a (now r))
  ends_at a v t (Some r) there none rests = inner (settled_at table v) refl rests
    where
      inner : (s : Option (ℕ × Option ℕ)) → settled_at table v ≡ s → Some (now r) ≡ (if is_none s then Some v else None) → EndsBy goings a (now r)
      inner None settled same =
          let it = some_same (now r) v same in
          ((t, there ∙ ap (λ x. Some x) (sym it)), ap (λ x. goings x) it ∙ ap (λ s. going_as v s) settled)
      inner (Some e) settled same = absurd (none_some (now r) (sym same))
  ends_at a v t None there none rests = λ w ends. inner w ends (settled_at table v) refl rests
    where
      inner : (w : View) → EndsBy goings a w → (s : Option (ℕ × Option ℕ)) → settled_at table v ≡ s → None ≡ (if is_none s then Some v else None) → ⊥
      inner w ends None settled same = none_some v same
      inner w ends (Some s) settled same =
          let it = one_last turnings a v w t ends.0.0 there (sym none) ends.0.1 (ap (λ x. turned_to x) ends.1) in
          settled_moves (bound_at bound) (field_path v) (s.1, call_behind_by table v s.0) (sym (ap (λ s. going_as v s) settled) ∙ ap (λ x. goings x) it ∙ ends.1)

  -- a walk that goes on after as many turns as one makes at most that doesn't go in a circle has no end
  pub goes_for_ever : (a v u : View) (t : ℕ) → most_turns table bound ≤ t → after_turns turnings t (Some a) ≡ Some v → Some u ≡ turnings v → (w : View) → EndsBy goings a w → ⊥
  goes_for_ever a v u t long there on w ends =
      endless turnings a (turn_number table bound a) (most_turns table bound) (few table bound a) u w (suc t) (omega (arith, long))
      (reached_more turnings t (Some a) ∙ ap (λ o. option_and_then turnings o) there ∙ sym on) ends.0.0 ends.0.1 (ap (λ x. turned_to x) ends.1)

-- ---- walks by the table are walks by looking back

module _ (going : View → Next) (past : Past) (same : (v : View) → going v ≡ next past v) where
  abbrev by_table : View → Option View
  by_table v = turned_to (going v)

  same_step : (v : View) → by_table v ≡ step past v
  same_step v = ap (λ x. turned_to x) (same v)

  pub leads_known : (a b : View) (r : Bool) → (IsTrue r ↔ Reaches by_table a b) → IsTrue r ↔ Leads past a b
  leads_known a b r h = (
    (λ x. let l = h.0 x in reached_leads past l.0 a b (sym (reached_same by_table (step past) same_step l.0 (Some a)) ∙ l.1)),
    λ x. let l = leads_reach past a b x in h.1 (l.0, reached_same by_table (step past) same_step l.0 (Some a) ∙ l.1),
  )

  turned_same : (n : ℕ) (a : View) → after_turns by_table n (by_table a) ≡ after_turns (step past) n (step past a)
  turned_same n a = reached_same by_table (step past) same_step n (by_table a) ∙ ap (λ o. after_turns (step past) n o) (same_step a)

  pub by_turns_known : (a b : View) (r : Bool) → (IsTrue r ↔ ReachesByTurns by_table a b) → IsTrue r ↔ LeadsByTurns past a b
  by_turns_known a b r h = (
    (λ x. let l = h.0 x in reached_by_turns past l.0 a b (sym (turned_same l.0 a) ∙ l.1)),
    λ x. let l = by_turns_reach past a b x in h.1 (l.0, turned_same l.0 a ∙ l.1),
  )

  end_by : (a w : View) → EndsBy going a w → IsEnd past a w
  end_by a w e = record {
    led = reached_leads past e.0.0 a w (sym (reached_same by_table (step past) same_step e.0.0 (Some a)) ∙ e.0.1);
    last = sym (same w) ∙ e.1;
  }

  by_end : (a w : View) → IsEnd past a w → EndsBy going a w
  by_end a w e = let l = leads_reach past a w e.led in ((l.0, reached_same by_table (step past) same_step l.0 (Some a) ∙ l.1), same w ∙ e.last)

  pub end_known : {R : Type 0} (now : R → View) (a : View) (o : Option R) → MatchOption o ((w : View) → EndsBy going a w → ⊥) (λ r. EndsBy going a (now r)) →
      MatchOption o ((w : View) → IsEnd past a w → ⊥) (λ r. IsEnd past a (now r))
  end_known now a (Some r) h = end_by a (now r) h
  end_known now a None h = λ w e. h w (by_end a w e)

-- a view that no record settled stays, and no other
pub stays_known : (going : View → Next) (past : Past) → ((v : View) → going v ≡ next past v) → (table : Settlements) (named : ℕ → Option View) →
    ((v : View) → going v ≡ goes_by table named v) → (v : View) (r : Bool) → r ≡ is_none (settled_at table v) → IsTrue r ↔ (next past v ≡ stays)
stays_known going past same table named is_going v r rests = inner (settled_at table v) refl
  where
    now : next past v ≡ goes_by table named v
    now = sym (same v) ∙ is_going v

    inner : (s : Option (ℕ × Option ℕ)) → settled_at table v ≡ s → IsTrue r ↔ (next past v ≡ stays)
    inner None settled = ((λ h. now ∙ ap (λ o. goes_to named (field_path v) (option_map {U = Turning} (λ s. (s.1, call_behind_by table v s.0)) o)) settled), λ h. rests ∙ ap (λ s. is_none s) settled)
    inner (Some s) settled = (
      (λ h. absurd (false≢true (sym (rests ∙ ap (λ s. is_none s) settled) ∙ h))),
      λ h. absurd
          (settled_moves named (field_path v) (s.1, call_behind_by table v s.0)
          (sym (now ∙ ap (λ o. goes_to named (field_path v) (option_map {U = Turning} (λ s. (s.1, call_behind_by table v s.0)) o)) settled) ∙ h)),
    )

-- where views go by a state is where they go by the records that were applied
pub goes_so : (items past : Past) (questions : Questions) (lives : ExportsImports) (bound : BoundReferences) (table : Settlements) → items ≡ past →
    AreTabled items questions lives bound → AreSettled items table → (v : View) → goes_by table (bound_at bound) v ≡ next past v
goes_so items past questions lives bound table view_is tabled kept v =
    goes_known items table kept bound tabled.bounds v ∙ ap (λ p. next p v) view_is
