-- The tables of what waits, after a record.
use Rattle.std.proofs.Common.{◌≡◌, ◌==◌, ◌<◌, inl, inr, refl, sym, ◌∙◌, ap, ap₂, subst, ℕ, ◌∷◌, length, Bool, true, false, Option, Some, None, if◌then◌else◌, option_map, option_and_then}
use Rattle.std.specs.Prelude.{Decides, is_some}
use Rattle.std.proofs.lemmas.Bool.{cases_Bool, eqb-true, false≢true}
use Rattle.number_tables.specs.declared.question_table.Questions.{Questions}
use Rattle.number_tables.specs.declared.exports_imports.ExportsImports.{ExportsImports}
use Rattle.vat_view.specs.declared.tables.references.BoundReferences.{BoundReferences}
use Rattle.number_tables.specs.declared.call_table.Calls.{Calls}
use Rattle.vat_view.specs.declared.tables.waits.waiting_calls.Receipt.{Receipt}
use Rattle.vat_view.specs.declared.tables.waits.waiting_calls.WaitingCalls.{WaitingCalls}
use Rattle.number_tables.specs.declared.question.QuestionState.{QuestionState}
use Rattle.vat_view.specs.declared.tables.waits.loopbacks.Unechoed.{Unechoed}
use Rattle.vat_view.specs.declared.tables.waits.embargoes.Embargoes.{Embargoes}
use Rattle.vat_view.specs.Types.{Return, Exception, Canceled, Disembargo, Sender, DecodedRecord, Wire, View, TableKey}
use Rattle.decoded_records.specs.Past.{Past, Point, point, id, is, names, record_index}
use Rattle.decoded_records.specs.Questions.{call_at, opening}
use Rattle.decoded_records.specs.Views.{view_of_target}
use Rattle.decoded_records.specs.Calls.{goal_of, has_passed, is_at_vat}
use Rattle.decoded_records.specs.Loopbacks.{sender_loopback, receiver_loopback, loopback_of, embargoed_view, receives_call, IsHeldUp}
use Rattle.decoded_records.specs.Bindings.{Refers}
use Rattle.vat_view.specs.Glue.Tables.{bound_at}
use Rattle.number_tables.specs.Glue.QuestionTables.{question_at, opening_call_in}
use Rattle.vat_view.specs.Glue.Asking.{targeted_by}
use Rattle.vat_view.specs.Glue.Kept.{AreKept}
use Rattle.vat_view.specs.Glue.Queues.{queued_at, is_queued, has_joined}
use Rattle.vat_view.specs.Glue.LoopTables.{Change, change_of_calls, change_of_loopbacks, looped_by, loopback_at, loopback_target_in, looped_at, put_by, receipt_of, receipt_here, receipt_at, call_received_by, call_taken_by, put_call, queued_by, change_by, AreQueued, Holding, SaysSame, IsChangedBy, AreWaiting}
use Rattle.vat_view.proofs.Answering.{targeted_known, opening_call_known}
use Rattle.vat_view.proofs.Called.{goal_known}
use Rattle.vat_view.proofs.Receiving.{goal_stays, goal_received, received_step, received_since, passed_since}

none_some : {A : Type 0} {x : A} → None ≡ Some x → ⊥
none_some e = cc

some_same : {A : Type 0} {x y : A} → Some x ≡ Some y → x ≡ y
some_same e = cc

here_parts : (c : ℕ) (past : Past) (r : Receipt) → receipt_here c past ≡ Some r → (is_at_vat c past ≡ true) × (receipt_of c past ≡ Some r)
here_parts c past r h = inner (is_at_vat c past) h
  where
    inner : (b : Bool) → (if b then receipt_of c past else None) ≡ Some r → (b ≡ true) × (receipt_of c past ≡ Some r)
    inner true g = (refl, g)
    inner false g = absurd (none_some g)

-- ---- the table of loopbacks after a record

put_step : (i : TableKey) (p : Point) (o : Option TableKey) (old : Option Unechoed) → put_by i (option_map (λ j. (j, looped_at p)) o) old ≡ (if names i o then Some (looped_at p) else old)
put_step i p (Some j) old = refl
put_step i p None old = refl

looped_step : (p : Point) (back out : Bool) (o : Option Point) →
    (if back then None else if out then Some (looped_at p) else option_map looped_at o) ≡ option_map looped_at (if back then None else if out then Some p else o)
looped_step p true out o = refl
looped_step p false true o = refl
looped_step p false false o = refl

-- ---- the table of received calls after a record

taken_same : (opened other : TableKey → Option ℕ) → ((q : TableKey) → opened q ≡ other q) → (e : DecodedRecord) → call_taken_by opened e ≡ call_taken_by other e
taken_same opened other same (Wire true k c rs (Return head Exception)) = same (id k false head.answer)
taken_same opened other same (Wire true k c rs (Return head Canceled)) = same (id k false head.answer)
taken_same opened other same _ = refl

-- ---- both

module _ (before : Past) (questions : Questions) (lives : ExportsImports) (bound : BoundReferences) (calls : Calls) (kept : AreKept before questions lives bound calls) (e : DecodedRecord) (refers : Refers before e)
    (number : ℕ) (place : number ≡ length before) (change : Change) (is_change : change ≡ change_by (bound_at bound) lives (question_at questions) number e) where
  looped_after : (i : TableKey) (old : Option Unechoed) → old ≡ option_map looped_at (loopback_of i before) →
      (if names i change.echoed then None else put_by i change.looped old) ≡ option_map looped_at (loopback_of i (e ∷ before))
  looped_after i old was =
      ap₂ (λ c o. if names i c.echoed then None else put_by i c.looped o) is_change was
      ∙ ap₂ (λ n v. if names i (receiver_loopback e) then None else put_by i (option_map (λ j. (j, record { number = n; target = v })) (sender_loopback e)) (option_map looped_at (loopback_of i before)))
      place (targeted_known before questions lives bound calls kept e)
      ∙ ap (λ o. if names i (receiver_loopback e) then None else o) (put_step i (point before e) (sender_loopback e) (option_map looped_at (loopback_of i before)))
      ∙ looped_step (point before e) (names i (receiver_loopback e)) (names i (sender_loopback e)) (loopback_of i before)

  received_after : (c : ℕ) (old : Option Receipt) → old ≡ receipt_here c before → (if is c change.taken then None else put_call c change.received old) ≡ receipt_here c (e ∷ before)
  received_after c old was =
      ap₂ (λ x o. if is c x.taken then None else put_call c x.received o) is_change was
      ∙ ap (λ n. if is c (call_taken_by (λ q. opening_call_in (question_at questions q)) e) then None else put_call c (call_received_by n e) (receipt_here c before)) place
      ∙ ap (λ o. if is c o then None else put_call c (call_received_by (length before) e) (receipt_here c before))
      (taken_same (λ q. opening_call_in (question_at questions q)) (λ q. call_at (opening q before)) (λ q. opening_call_known before questions lives bound calls kept q) e)
      ∙ received_step c before e refers

  -- each call that is at the vat then stands in the queue
  module _ (old : Embargoes) (waits : AreWaiting before old) (joined : has_joined old.inbox (queued_by (bound_at bound) lives (question_at questions) number e) ≡ true) (c : ℕ) (r : Receipt) where
    stood : receipt_at old.inbox c ≡ Some r → is_queued old.inbox (queued_at c r (goal_of c (e ∷ before))) ≡ true
    stood was =
        let here : receipt_here c before ≡ Some r = sym (waits.received c) ∙ was in
        subst (λ g. is_queued old.inbox (queued_at c r g) ≡ true) (sym (goal_stays c before e r refers (here_parts c before r here).1)) (waits.queued c r here)

    stands : (o : Option (ℕ × Receipt)) → call_received_by number e ≡ o → put_call c o (receipt_at old.inbox c) ≡ Some r → is_queued old.inbox (queued_at c r (goal_of c (e ∷ before))) ≡ true
    stands None is put = stood put
    stands (Some x) is put = elim (cases_Bool (x.0 == c)) [
      | inl same ↦
          let goal : targeted_by (bound_at bound) lives (question_at questions) e ≡ goal_of c (e ∷ before) =
          targeted_known before questions lives bound calls kept e ∙ sym (goal_received c number before e x is same) in
          subst (λ q. is_queued old.inbox q ≡ true)
          (ap₂ (λ y s. queued_at y s (targeted_by (bound_at bound) lives (question_at questions) e)) (eqb-true x.0 c same) (some_same (sym (ap (λ b. if b then Some x.1 else receipt_at old.inbox c) same) ∙ put))
          ∙ ap (λ v. queued_at c r v) goal)
          (sym (ap (λ o. has_joined old.inbox (option_map (λ y. queued_at y.0 y.1 (targeted_by (bound_at bound) lives (question_at questions) e)) o)) is) ∙ joined)
      | inr apart ↦ stood (sym (ap (λ b. if b then Some x.1 else receipt_at old.inbox c) apart) ∙ put)
    ]

    queued_after : (new : Embargoes) → IsChangedBy change old new → receipt_here c (e ∷ before) ≡ Some r → is_queued new.inbox (queued_at c r (goal_of c (e ∷ before))) ≡ true
    queued_after new changed h =
        let now : (if is c change.taken then None else put_call c change.received (receipt_at old.inbox c)) ≡ Some r = received_after c (receipt_at old.inbox c) (waits.received c) ∙ h in
        elim (cases_Bool (is c change.taken)) [
          | inl gone ↦ absurd (none_some (sym (ap (λ b. if b then None else put_call c change.received (receipt_at old.inbox c)) gone) ∙ now))
          | inr stays ↦ changed.queued (queued_at c r (goal_of c (e ∷ before))) stays
              (stands (call_received_by number e) refl
              (sym (ap (λ x. put_call c x.received (receipt_at old.inbox c)) is_change) ∙ sym (ap (λ b. if b then None else put_call c change.received (receipt_at old.inbox c)) stays) ∙ now))
        ]

  pub waits_after : (old new : Embargoes) → AreWaiting before old → has_joined old.inbox (queued_by (bound_at bound) lives (question_at questions) number e) ≡ true → IsChangedBy change old new →
      AreWaiting (e ∷ before) new
  waits_after old new waits joined changed = record {
    looped = λ i. changed.looped i ∙ looped_after i (loopback_at old.loopbacks i) (waits.looped i);
    received = λ c. changed.received c ∙ received_after c (receipt_at old.inbox c) (waits.received c);
    queued = λ c r h. queued_after old waits joined c r new changed h;
  }

pub waits_same : (past : Past) (old new : Embargoes) → SaysSame old new → AreWaiting past old → AreWaiting past new
waits_same past old new same waits = record {
  looped = λ i. same.looped i ∙ waits.looped i;
  received = λ c. same.received c ∙ waits.received c;
  queued = λ c r h. same.queued (queued_at c r (goal_of c past)) (waits.queued c r h);
}

-- ---- what is asked of a loopback

module _ (past : Past) (waits : Embargoes) (kept : AreWaiting past waits) (i : TableKey) where
  pub has_known : is_some (loopback_at waits.loopbacks i) ≡ is_some (loopback_of i past)
  has_known = ap (λ o. is_some o) (kept.looped i) ∙ found (loopback_of i past)
    where
      found : (o : Option Point) → is_some (option_map looped_at o) ≡ is_some o
      found (Some p) = refl
      found None = refl

  pub waiting_known : loopback_target_in (loopback_at waits.loopbacks i) ≡ embargoed_view i past
  waiting_known = ap (λ o. loopback_target_in o) (kept.looped i) ∙ found (loopback_of i past)
    where
      found : (o : Option Point) → loopback_target_in (option_map looped_at o) ≡ option_and_then (λ p. view_of_target p.before p.event) o
      found (Some p) = refl
      found None = refl

-- ---- what holds an echo up

looped_parts : (o : Option Point) (u : Unechoed) → option_map looped_at o ≡ Some u → (p : Point) × (o ≡ Some p) × (looped_at p ≡ u)
looped_parts (Some p) u h = (p, refl, some_same h)
looped_parts None u h = absurd (none_some h)

module _ (past : Past) (questions : Questions) (lives : ExportsImports) (bound : BoundReferences) (calls : Calls) (kept : AreKept past questions lives bound calls) (waits : Embargoes) (embargoed_view : AreWaiting past waits)
    (i : TableKey) where
  -- by the goals that the table of calls has
  all_queued : AreQueued waits.inbox calls
  all_queued c r h = subst (λ g. is_queued waits.inbox (queued_at c r g) ≡ true) (sym (goal_known past questions lives bound calls kept c (here_parts c past r (sym (embargoed_view.received c) ∙ h)).0)) (embargoed_view.queued c r (sym (embargoed_view.received c) ∙ h))

  pub held_decided : (u : Unechoed) → loopback_at waits.loopbacks i ≡ Some u → (b : Bool) → (AreQueued waits.inbox calls → Decides b (Holding waits.inbox calls i.connection u)) → Decides b (IsHeldUp i past)
  held_decided u there b decides = (
    λ so. (let holds = (decides all_queued).0 so in
        let call : ℕ = holds.0 in
        let r : Receipt = holds.1 in
        let known = looped_parts (loopback_of i past) u (sym (embargoed_view.looped i) ∙ there) in
        let p : Point = known.0 in
        let here = here_parts call past r (sym (embargoed_view.received call) ∙ holds.2) in
        let early : r.number < record_index p = subst (λ x. r.number < x.number) (sym known.2) holds.4 in
        let passed : has_passed (receives_call r.connection call) p.before ≡ true = passed_since (λ before e. names i (receiver_loopback e)) (λ before e. names i (sender_loopback e)) call past p r known.1 here.1 early in (
          p,
          known.1,
          (
            call,
            subst (λ k. has_passed (receives_call k call) p.before ≡ true) holds.3 passed,
            sym (goal_known past questions lives bound calls kept call here.0) ∙ holds.5 ∙ sym (ap (λ x. x.target) known.2),
            here.0,
          ),
        )),
    λ held. (let p : Point = held.0 in
        let call : ℕ = held.2.0 in
        let same : looped_at p ≡ u = some_same (sym (ap (λ o. option_map looped_at o) held.1) ∙ sym (embargoed_view.looped i) ∙ there) in
        let got = received_since (λ before e. names i (receiver_loopback e)) (λ before e. names i (sender_loopback e)) i.connection call past kept.sound p held.1 held.2.1 in
        let at : receipt_at waits.inbox call ≡ Some got.0 = embargoed_view.received call ∙ ap (λ b. if b then receipt_of call past else None) held.2.3 ∙ got.1 in
        (decides all_queued).1 (
          call,
          got.0,
          at,
          got.2,
          subst (λ x. got.0.number < x.number) same got.3,
          goal_known past questions lives bound calls kept call held.2.3 ∙ held.2.2 ∙ ap (λ x. x.target) same,
        )),
  )

  pub held_by_none : loopback_at waits.loopbacks i ≡ None → Decides false (IsHeldUp i past)
  held_by_none nothing = (
    λ so. absurd (false≢true so),
    λ held. absurd (none_some (sym nothing ∙ embargoed_view.looped i ∙ ap (λ o. option_map looped_at o) held.1)),
  )

-- ---- the two kinds of changes

-- a record that asks for an echo echoes nothing, receives no call and takes none
asks_alone : (opened : TableKey → Option ℕ) (number : ℕ) (e : DecodedRecord) → is_some (sender_loopback e) ≡ true →
    (receiver_loopback e ≡ None) × (call_received_by number e ≡ None) × (call_taken_by opened e ≡ None)
asks_alone opened number (Wire true k c rs (Disembargo n Sender target)) h = (refl, refl, refl)
asks_alone opened number (Wire false k c rs (Disembargo n Sender target)) h = (refl, refl, refl)
asks_alone opened number _ h = absurd (false≢true h)

nothing_there : {A : Type 0} (o : Option A) → is_some o ≡ false → o ≡ None
nothing_there (Some x) h = absurd (false≢true (sym h))
nothing_there None h = refl

module _ (named : ℕ → Option View) (lives : ExportsImports) (known : TableKey → Option QuestionState) (number : ℕ) (e : DecodedRecord) where
  pub changes_loopbacks : is_some (sender_loopback e) ≡ true → (looped : Option (TableKey × Unechoed)) → looped ≡ looped_by named lives known number e →
      change_of_loopbacks looped ≡ change_by named lives known number e
  changes_loopbacks asks looped is_looped =
      let others = asks_alone (λ q. opening_call_in (known q)) number e asks in
      ap (λ o. change_of_loopbacks o) is_looped
      ∙ ap₂ (λ x y. record { looped = looped_by named lives known number e; echoed = x; received = y; taken = None }) (sym others.0) (sym others.1)
      ∙ ap (λ x. record { looped = looped_by named lives known number e; echoed = receiver_loopback e; received = call_received_by number e; taken = x }) (sym others.2)

  pub queues_nothing : is_some (sender_loopback e) ≡ true → (waits : WaitingCalls) → has_joined waits (queued_by named lives known number e) ≡ true
  queues_nothing asks waits =
      ap (λ o. has_joined waits (option_map (λ x. queued_at x.0 x.1 (targeted_by named lives known e)) o)) (asks_alone (λ q. opening_call_in (known q)) number e asks).1

  pub changes_calls : is_some (sender_loopback e) ≡ false → (taken : Option ℕ) → taken ≡ call_taken_by (λ q. opening_call_in (known q)) e →
      change_of_calls number e taken ≡ change_by named lives known number e
  changes_calls asks taken is_taken =
      ap (λ o. change_of_calls number e o) is_taken
      ∙ ap (λ o. record { looped = option_map (λ i. (i, record { number = number; target = targeted_by named lives known e })) o; echoed = receiver_loopback e; received = call_received_by number e; taken = call_taken_by (λ q. opening_call_in (known q)) e })
      (sym (nothing_there (sender_loopback e) asks))
