-- Which calls of the table of received calls hold up an echo.
use Rattle.std.proofs.Common.{◌≡◌, refl, sym, ◌∙◌, ap, ap₂, subst, ℕ, ◌==◌, ◌<◌, Bool, true, ◌&&◌, Option, Some, None}
use Rattle.std.specs.Prelude.{Decides, nat_lt}
use Rattle.std.specs.List.{filter, list_any}
use Rattle.std.specs.BTreeMap.{is_at}
use Rattle.std.specs.BTreeMap.Range.{range_contains}
use Rattle.std.proofs.lemmas.Bool.{and_parts, false≢true, eqb-true, eq-eqb, lt-ltb, ltb-true}
use Rattle.std.proofs.lemmas.Slice.Eq.{bytes_eq-Decides}
use Rattle.std.proofs.lemmas.List.Folds.{Any-from_list_any}
use Rattle.number_tables.specs.declared.call_table.Calls.{Calls}
use Rattle.vat_view.specs.declared.tables.turns.goal_key.GoalKey.{GoalKey}
use Rattle.vat_view.specs.declared.tables.waits.queued_call.QueuedCall.{QueuedCall}
use Rattle.vat_view.specs.declared.tables.waits.waiting_calls.Receipt.{Receipt}
use Rattle.vat_view.specs.declared.tables.waits.waiting_calls.WaitingCalls.{WaitingCalls}
use Rattle.vat_view.specs.declared.tables.waits.loopbacks.Unechoed.{Unechoed}
use Rattle.vat_view.specs.Types.{View, Object, Promise, FieldOf, Import}
use Rattle.number_tables.specs.Glue.CallStates.{call_state_at, goal_in, same_view, same_target}
use Rattle.vat_view.specs.Glue.Queues.{goal_key_of, queued_at, queued_cmp, is_queued, from_first, up_to}
use Rattle.vat_view.specs.Glue.LoopTables.{receipt_at, held_by, AreQueued, Holding}
use Rattle.vat_view.proofs.Queueing.{found_within, tied_within, tied_call}

join : (a b : Bool) → a ≡ true → b ≡ true → (a && b) ≡ true
join a b e f = ap (λ x. x && b) e ∙ f

-- ---- views that are one

view_is : (a b : View) → same_view a b ≡ true → a ≡ b
view_is (Object a) (Object b) h = ap (λ x. Object x) (eqb-true a b h)
view_is (Promise a) (Promise b) h = ap (λ x. Promise x) (eqb-true a b h)
view_is (FieldOf a p) (FieldOf b q) h =
    let both = and_parts (a == b) _ h in ap₂ (λ x y. FieldOf x y) (eqb-true a b both.0) ((bytes_eq-Decides p q).0 both.1)
view_is (Import a p) (Import b q) h = let both = and_parts (a == b) (p == q) h in ap₂ (λ x y. Import x y) (eqb-true a b both.0) (eqb-true p q both.1)
view_is _ _ h = absurd (false≢true h)

view_self : (a : View) → same_view a a ≡ true
view_self (Object a) = eq-eqb a a refl
view_self (Promise a) = eq-eqb a a refl
view_self (FieldOf a p) = join (a == a) _ (eq-eqb a a refl) ((bytes_eq-Decides p p).1 refl)
view_self (Import a p) = join (a == a) (p == p) (eq-eqb a a refl) (eq-eqb p p refl)

target_is : (a b : Option View) → same_target a b ≡ true → a ≡ b
target_is (Some a) (Some b) h = ap (λ x. Some x) (view_is a b h)
target_is None None h = refl
target_is _ _ h = absurd (false≢true h)

target_self : (a : Option View) → same_target a a ≡ true
target_self (Some a) = view_self a
target_self None = refl

-- ---- what holds an echo up

module _ (table : WaitingCalls) (calls : Calls) (k : ℕ) (looped : Unechoed) where
  one_holds : (call : ℕ) (o : Option Receipt) → receipt_at table call ≡ o → held_by calls k looped call o ≡ true → Holding table calls k looped
  one_holds call (Some r) there h =
      let both = and_parts ((r.connection == k) && nat_lt r.number looped.number) (same_target (goal_in (call_state_at calls call)) looped.target) h in
      let first = and_parts (r.connection == k) (nat_lt r.number looped.number) both.0 in (
        call,
        r,
        there,
        eqb-true r.connection k first.0,
        ltb-true r.number looped.number first.1,
        target_is (goal_in (call_state_at calls call)) looped.target both.1,
      )
  one_holds call None there h = absurd (false≢true h)

  held_so : (call : ℕ) (r : Receipt) → r.connection ≡ k → r.number < looped.number → goal_in (call_state_at calls call) ≡ looped.target → held_by calls k looped call (Some r) ≡ true
  held_so call r on early goal =
      join ((r.connection == k) && nat_lt r.number looped.number) (same_target (goal_in (call_state_at calls call)) looped.target)
      (join (r.connection == k) (nat_lt r.number looped.number) (eq-eqb r.connection k on) (lt-ltb r.number looped.number early))
      (subst (λ t. same_target t looped.target ≡ true) (sym goal) (target_self looped.target))

  abbrev is_held : ℕ → Bool
  is_held call = held_by calls k looped call (receipt_at table call)

  abbrev is_before : QueuedCall → Bool
  is_before q = range_contains queued_cmp (from_first k looped.target) (up_to k looped.target looped.number) q

  -- each that holds is found
  all_found : AreQueued table calls → Holding table calls k looped → list_any (λ e. is_held e.0.call) (filter (λ e. is_before e.0) table.queue.entries) ≡ true
  all_found queued holds =
      let call : ℕ = holds.0 in
      let r : Receipt = holds.1 in
      let h : GoalKey = goal_key_of looped.target in
      let q : QueuedCall = record { connection = k; heading = h; number = r.number; call = call } in
      let is : queued_at call r (goal_in (call_state_at calls call)) ≡ q = ap₂ (λ x g. record { connection = x; heading = goal_key_of g; number = r.number; call = call }) holds.3 holds.5 in
      let there : is_queued table q ≡ true = subst (λ x. is_queued table x ≡ true) is (queued call r holds.2) in
      let held : is_held call ≡ true = ap (λ o. held_by calls k looped call o) holds.2 ∙ held_so call r holds.3 holds.4 holds.5 in
      found_within (is_at (queued_cmp q)) is_before (λ x. is_held x.call)
      (λ x tied. (tied_within k h looped.number r.number call holds.4 x tied, subst (λ c. is_held c ≡ true) (tied_call q x tied) held)) table.queue.entries there

  pub holding_decided : (result : Bool) → result ≡ list_any (λ e. is_held e.0.call) (filter (λ e. is_before e.0) table.queue.entries) →
      AreQueued table calls → Decides result (Holding table calls k looped)
  holding_decided result is_any queued = (
    λ so. (let any = Any-from_list_any (λ e. is_held e.0.call) (filter (λ e. is_before e.0) table.queue.entries) (sym is_any ∙ so) in
        one_holds any.1.0.call (receipt_at table any.1.0.call) refl any.4),
    λ holds. is_any ∙ all_found queued holds,
  )
