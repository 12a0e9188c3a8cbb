-- A call is asked of another vat once, and then it isn't served; so a good record turns only results that stay.
use Rattle.std.proofs.Common.{◌≡◌, ◌⊎◌, inl, inr, refl, sym, ◌∙◌, ap, subst, ℕ, ◌==◌, List, [], ◌∷◌, ◌++◌, Bool, true, false, not, ◌&&◌, ◌||◌, Option, Some, None, if◌then◌else◌}
use Rattle.std.specs.Prelude.{is_some, unwrap_or, IsSome, option_map}
use Rattle.std.specs.List.{list_all}
use Rattle.std.specs.Option.{option_or}
use Rattle.std.proofs.lemmas.Bool.{cases_Bool, and_parts, or_left, or_right, not-true, false≢true, eqb-true}
use Rattle.vat_rules.specs.declared.rule.Rule.TheVariants as rule
use Rattle.vat_rules.specs.Types.{Later, Bootstrap, Call, Return, ReturnHead, Outcome, Results, Exception, Canceled, Elsewhere, TakeFrom, Resolve, DecodedRecord, Fulfil, Break, Make, Deliver, Answer, AnswerBy, Fault, Wire, View, Object, Promise, FieldOf, Import}
use Rattle.vat_rules.specs.Judged.{IsGood}
use Rattle.vat_rules.specs.OfCalls.{distinct_paths}
use Rattle.vat_rules.specs.OfPromises.{IsUnkept, is_unresolved}
use Rattle.vat_rules.proofs.Judging.{good_sound}
use Rattle.decoded_records.specs.declared.request.Request.{Request}
use Rattle.decoded_records.specs.declared.table_key.TableKey.{TableKey}
use Rattle.decoded_records.specs.Past.{Past, point, id, is, names, same_id, last_answer, last_where, last_since, Each}
use Rattle.decoded_records.specs.Questions.{opens, opening, call_at, returns, is_opened, is_returned, return_of}
use Rattle.decoded_records.specs.Uses.{UsesQuestions}
use Rattle.decoded_records.specs.Views.{view_of_reference, view_of_target}
use Rattle.decoded_records.specs.Calls.{moves, delivers, boots, settles, has_passed, is_at_vat, is_served, is_settled}
use Rattle.decoded_records.specs.Bindings.{new_calls, contains, is_bound_call}
use Rattle.vat_view.specs.Sound.{IsSound}
use Rattle.decoded_records.specs.Lives.{birth, begins, began_promised, promise_resolved, is_in_life, is_resolved}
use Rattle.vat_view.specs.Walks.{Next, stays, is_promise, keeps, resolves, answers, next, TurnsOnce}
use Rattle.vat_view.specs.Laws.{EachAfter}
use Rattle.decoded_records.proofs.Naming.{same_id_is, same_id_self, names_is}
use Rattle.vat_view.proofs.Unbound.{unknown, IsUnknown}
use Rattle.vat_view.proofs.Unresolved.{resolve_turns_once}

-- ---- tests that a record has passed

pub passed_or : (test : Past → DecodedRecord → Bool) (before : Past) (e : DecodedRecord) → has_passed test (e ∷ before) ≡ true → (test before e ≡ true) ⊎ (has_passed test before ≡ true)
passed_or test before e h = elim (cases_Bool (test before e)) [
  | inl now ↦ inl now
  | inr apart ↦ inr (sym (ap (λ b. is_some (if b then Some (point before e) else last_where test before)) apart) ∙ h)
]

passed_old : (test : Past → DecodedRecord → Bool) (before : Past) (e : DecodedRecord) → test before e ≡ false → has_passed test (e ∷ before) ≡ has_passed test before
passed_old test before e apart = ap (λ b. is_some (if b then Some (point before e) else last_where test before)) apart

pub passed_later : (test : Past → DecodedRecord → Bool) (before : Past) (e : DecodedRecord) → has_passed test before ≡ true → has_passed test (e ∷ before) ≡ true
passed_later test before e h = elim (cases_Bool (test before e)) [
  | inl now ↦ ap (λ b. is_some (if b then Some (point before e) else last_where test before)) now
  | inr apart ↦ passed_old test before e apart ∙ h
]

pub passed_now : (test : Past → DecodedRecord → Bool) (before : Past) (e : DecodedRecord) → test before e ≡ true → has_passed test (e ∷ before) ≡ true
passed_now test before e now = ap (λ b. is_some (if b then Some (point before e) else last_where test before)) now

both : (a b : Bool) → (a ≡ true → b ≡ true → ⊥) → a ≡ true → b ≡ false
both a b never h = elim (cases_Bool b) [
  | inl g ↦ absurd (never h g)
  | inr g ↦ g
]

pub clash : {b : Bool} → b ≡ true → b ≡ false → ⊥
clash h g = false≢true (sym g ∙ h)

sound : (past : Past) → Each IsGood past → Each IsSound past
sound [] good = tt
sound (e ∷ before) good = (good_sound Later before e good.0, sound before good.1)

-- good records use questions as they should
pub each_uses_questions : (past : Past) → Each IsGood past → Each UsesQuestions past
each_uses_questions [] good = tt
each_uses_questions (e ∷ before) good = (good.0 rule.QUse, each_uses_questions before good.1)

module _ (c : ℕ) where
  -- a record asks another vat for the call: it sends a Bootstrap or a Call of it
  abbrev asks : Past → DecodedRecord → Bool
  asks before (Wire true k d rs (Bootstrap q)) = d == c
  asks before (Wire true k d rs (Call head t p)) = d == c
  asks before _ = false

  -- a received Return ends what was asked for
  abbrev comes_back : Past → DecodedRecord → Bool
  comes_back before (Wire false k d rs (Return head outcome)) = is c (call_at (opening (id k true head.answer) before))
  comes_back before _ = false

  -- ---- what a record does to a call

  data Effect (before : Past) (e : DecodedRecord) : Type 0 where
    -- nothing, or it takes the call from the vat
    quiet : asks before e ≡ false → delivers c before e ≡ false → boots c before e ≡ false → settles c before e ≡ false →
        (is_at_vat c (e ∷ before) ≡ true → is_at_vat c before ≡ true) → Effect before e
    -- it makes a new call
    makes : is_bound_call before c ≡ false → asks before e ≡ false → delivers c before e ≡ false → boots c before e ≡ false → settles c before e ≡ false → Effect before e
    -- it receives the Bootstrap of a new call
    booted : is_bound_call before c ≡ false → asks before e ≡ false → settles c before e ≡ false → is_at_vat c (e ∷ before) ≡ is_at_vat c before → Effect before e
    -- it sends the Bootstrap of a new call
    asked_new : is_bound_call before c ≡ false → delivers c before e ≡ false → boots c before e ≡ false → settles c before e ≡ false → is_at_vat c (e ∷ before) ≡ is_at_vat c before → Effect before e
    -- it sends on a call that is at the vat
    sends : is_at_vat c before ≡ true → delivers c before e ≡ false → boots c before e ≡ false → settles c before e ≡ false → is_at_vat c (e ∷ before) ≡ false → Effect before e
    -- it delivers a call that is at the vat
    serves : is_at_vat c before ≡ true → asks before e ≡ false → settles c before e ≡ false → is_at_vat c (e ∷ before) ≡ false → Effect before e
    -- it answers a call that is served
    answered : is_served c before ≡ true → asks before e ≡ false → delivers c before e ≡ false → boots c before e ≡ false → is_at_vat c (e ∷ before) ≡ is_at_vat c before → Effect before e
    -- it faults a call that is at the vat or served
    faulted : (is_at_vat c before || is_served c before) ≡ true → asks before e ≡ false → delivers c before e ≡ false → boots c before e ≡ false → is_at_vat c (e ∷ before) ≡ false → Effect before e

  left_if : (b : Bool) (rest : Option Bool) → b ≡ true → unwrap_or (option_or (if b then Some false else None) rest) false ≡ false
  left_if b rest h = ap (λ x. unwrap_or (option_or (if x then Some false else None) rest) false) h

  stayed_if : (b : Bool) (rest : Option Bool) → unwrap_or (option_or (if b then Some false else None) rest) false ≡ true → unwrap_or rest false ≡ true
  stayed_if true rest h = absurd (false≢true h)
  stayed_if false rest h = h

  came_if : (a : Request) (b : Bool) (rest : Option Bool) → b ≡ false →
      unwrap_or (option_or (if is_some (if b then Some a else None) then Some true else if false then Some false else None) rest) false ≡ true → unwrap_or rest false ≡ true
  came_if a b rest apart h = sym (ap (λ x. unwrap_or (option_or (if is_some (if x then Some a else None) then Some true else if false then Some false else None) rest) false) apart) ∙ h

  fresh : (before : Past) (d : ℕ) → list_all (λ x. not (is_bound_call before x)) (d ∷ []) ≡ true → (d == c) ≡ true → is_bound_call before c ≡ false
  fresh before d h same =
      subst (λ x. is_bound_call before x ≡ false) (eqb-true d c same) (not-true (is_bound_call before d) (and_parts (not (is_bound_call before d)) true h).0)

  named : (test : ℕ → Bool) (d : ℕ) → test d ≡ true → (d == c) ≡ true → test c ≡ true
  named test d h same = subst (λ x. test x ≡ true) (eqb-true d c same) h

  effect : (before : Past) (e : DecodedRecord) → IsGood before e → Effect before e
  effect before (Make d r f m) good = elim (cases_Bool (d == c)) [
    | inl same ↦ makes (fresh before d (good rule.Ref).unused_call same) refl refl refl refl
    | inr apart ↦ quiet refl refl refl refl (let a : Request = record { goal = view_of_reference before r; interface = f; method = m } in came_if a (d == c) (last_answer (moves c) before) apart)
  ]
  effect before (Deliver d object) good = elim (cases_Bool (d == c)) [
    | inl same ↦ serves (named (λ x. is_at_vat x before) d (good rule.Here) same) refl refl (left_if (d == c) (last_answer (moves c) before) same)
    | inr apart ↦ quiet refl apart refl refl (stayed_if (d == c) (last_answer (moves c) before))
  ]
  effect before (Answer d results) good = elim (cases_Bool (d == c)) [
    | inl same ↦
        let parts = and_parts (is_served d before && not (is_settled d before)) (distinct_paths results) (good rule.Answer) in
        answered (named (λ x. is_served x before) d (and_parts (is_served d before) (not (is_settled d before)) parts.0).0 same) refl refl refl refl
    | inr apart ↦ quiet refl refl refl apart (λ h. h)
  ]
  effect before (AnswerBy d by) good = elim (cases_Bool (d == c)) [
    | inl same ↦
        let both = and_parts (is_served d before) (not (is_settled d before)) (good rule.Answer) in
        answered (named (λ x. is_served x before) d both.0 same) refl refl refl refl
    | inr apart ↦ quiet refl refl refl apart (λ h. h)
  ]
  effect before (Fault d) good = elim (cases_Bool (d == c)) [
    | inl same ↦ faulted (named (λ x. is_at_vat x before || is_served x before) d (and_parts (is_at_vat d before || is_served d before) (not (is_settled d before)) (good rule.Answer)).0 same)
        refl refl refl (left_if (d == c) (last_answer (moves c) before) same)
    | inr apart ↦ quiet refl refl refl apart (stayed_if (d == c) (last_answer (moves c) before))
  ]
  effect before (Wire true k d rs (Bootstrap q)) good = elim (cases_Bool (d == c)) [
    | inl same ↦ asked_new (fresh before d (good rule.Ref).unused_call same) refl refl refl refl
    | inr apart ↦ quiet apart refl refl refl (λ h. h)
  ]
  effect before (Wire false k d rs (Bootstrap q)) good = elim (cases_Bool (d == c)) [
    | inl same ↦ booted (fresh before d (good rule.Ref).unused_call same) refl refl refl
    | inr apart ↦ quiet refl refl apart refl (λ h. h)
  ]
  effect before (Wire true k d rs (Call head t p)) good = elim (cases_Bool (d == c)) [
    | inl same ↦ sends (named (λ x. is_at_vat x before) d (good rule.Here) same) refl refl refl (left_if (d == c) (last_answer (moves c) before) same)
    | inr apart ↦ quiet apart refl refl refl (stayed_if (d == c) (last_answer (moves c) before))
  ]
  effect before (Wire false k d rs (Call head t p)) good = elim (cases_Bool (d == c)) [
    | inl same ↦ makes (fresh before d (good rule.Ref).unused_call same) refl refl refl refl
    | inr apart ↦ quiet refl refl refl refl
        (let a : Request = record { goal = view_of_target before (Wire false k d rs (Call head t p)); interface = head.interface; method = head.method } in came_if a (d == c) (last_answer (moves c) before) apart)
  ]
  effect before (Wire true k d rs (Return head Exception)) good =
      quiet refl refl refl refl (stayed_if (is c (call_at (opening (id k false head.answer) before))) (last_answer (moves c) before))
  effect before (Wire true k d rs (Return head Canceled)) good =
      quiet refl refl refl refl (stayed_if (is c (call_at (opening (id k false head.answer) before))) (last_answer (moves c) before))
  effect before _ good = quiet refl refl refl refl (λ h. h)

  -- ---- what was asked for is bound

  asks_bound : (before : Past) (e : DecodedRecord) → IsGood before e → asks before e ≡ true → is_bound_call (e ∷ before) c ≡ true
  asks_bound before (Wire true k d rs (Bootstrap q)) good same = or_left ((d == c) || false) (is_bound_call before c) (or_left (d == c) false same)
  asks_bound before (Wire true k d rs (Call head t p)) good same =
      named (λ x. is_bound_call before x) d (and_parts (is_bound_call before d) true (good rule.Ref).bound_call).0 same
  asks_bound before _ good h = absurd (false≢true h)

  asked_bound : (past : Past) → Each IsGood past → has_passed asks past ≡ true → is_bound_call past c ≡ true
  asked_bound [] good h = absurd (false≢true h)
  asked_bound (e ∷ before) good h = elim (passed_or asks before e h) [
    | inl now ↦ asks_bound before e good.0 now
    | inr old ↦ or_right (contains c (new_calls e)) (is_bound_call before c) (asked_bound before good.1 old)
  ]

  -- ---- a call is at the vat, or asked for, or served

  record IsPlaced (past : Past) : Type 0 where
    here_unasked : is_at_vat c past ≡ true → has_passed asks past ≡ false
    here_unserved : is_at_vat c past ≡ true → is_served c past ≡ false
    here_unsettled : is_at_vat c past ≡ true → is_settled c past ≡ false
    asked_unserved : has_passed asks past ≡ true → is_served c past ≡ false
    asked_unsettled : has_passed asks past ≡ true → is_settled c past ≡ false

  served_old : (before : Past) (e : DecodedRecord) → delivers c before e ≡ false → boots c before e ≡ false → is_served c (e ∷ before) ≡ is_served c before
  served_old before e apart beside = ap (λ b. b || has_passed (boots c) (e ∷ before)) (passed_old (delivers c) before e apart) ∙ ap (λ b. has_passed (delivers c) before || b) (passed_old (boots c) before e beside)

  module _ (before : Past) (good : Each IsGood before) where
    unasked : is_bound_call before c ≡ false → has_passed asks before ≡ false
    unasked unbound = elim (cases_Bool (has_passed asks before)) [
      | inl asked ↦ absurd (clash (asked_bound before good asked) unbound)
      | inr none ↦ none
    ]

    nowhere : is_bound_call before c ≡ false → IsUnknown c before
    nowhere unbound = unknown before (sound before good) c unbound

    unserved : is_bound_call before c ≡ false → is_served c before ≡ false
    unserved unbound = ap (λ b. b || has_passed (boots c) before) (nowhere unbound).delivered ∙ (nowhere unbound).booted

    gone : is_bound_call before c ≡ false → is_at_vat c before ≡ false
    gone unbound = ap (λ o. unwrap_or o false) (nowhere unbound).moved

    no_fault : IsPlaced before → (is_at_vat c before || is_served c before) ≡ true → has_passed asks before ≡ true → ⊥
    no_fault p there asked = elim (cases_Bool (is_at_vat c before)) [
      | inl here ↦ clash asked (p.here_unasked here)
      | inr away ↦ clash (sym (ap (λ b. b || is_served c before) away) ∙ there) (p.asked_unserved asked)
    ]

    placed_by : (e : DecodedRecord) → Effect before e → IsPlaced before → IsPlaced (e ∷ before)
    placed_by e (quiet a d b s stayed) p = record {
      here_unasked = λ h. passed_old asks before e a ∙ p.here_unasked (stayed h);
      here_unserved = λ h. served_old before e d b ∙ p.here_unserved (stayed h);
      here_unsettled = λ h. passed_old (settles c) before e s ∙ p.here_unsettled (stayed h);
      asked_unserved = λ h. served_old before e d b ∙ p.asked_unserved (sym (passed_old asks before e a) ∙ h);
      asked_unsettled = λ h. passed_old (settles c) before e s ∙ p.asked_unsettled (sym (passed_old asks before e a) ∙ h);
    }
    placed_by e (makes new a d b s) p = record {
      here_unasked = λ h. passed_old asks before e a ∙ unasked new;
      here_unserved = λ h. served_old before e d b ∙ unserved new;
      here_unsettled = λ h. passed_old (settles c) before e s ∙ (nowhere new).settled;
      asked_unserved = λ h. served_old before e d b ∙ unserved new;
      asked_unsettled = λ h. passed_old (settles c) before e s ∙ (nowhere new).settled;
    }
    placed_by e (booted new a s same) p =
        let never : is_at_vat c (e ∷ before) ≡ true → ⊥ = λ h. clash h (same ∙ gone new) in
        let none : has_passed asks (e ∷ before) ≡ true → ⊥ = λ h. clash h (passed_old asks before e a ∙ unasked new) in record {
          here_unasked = λ h. absurd (never h);
          here_unserved = λ h. absurd (never h);
          here_unsettled = λ h. absurd (never h);
          asked_unserved = λ h. absurd (none h);
          asked_unsettled = λ h. absurd (none h);
        }
    placed_by e (asked_new new d b s same) p =
        let never : is_at_vat c (e ∷ before) ≡ true → ⊥ = λ h. clash h (same ∙ gone new) in record {
          here_unasked = λ h. absurd (never h);
          here_unserved = λ h. absurd (never h);
          here_unsettled = λ h. absurd (never h);
          asked_unserved = λ h. served_old before e d b ∙ unserved new;
          asked_unsettled = λ h. passed_old (settles c) before e s ∙ (nowhere new).settled;
        }
    placed_by e (sends there d b s left) p = record {
      here_unasked = λ h. absurd (clash h left);
      here_unserved = λ h. absurd (clash h left);
      here_unsettled = λ h. absurd (clash h left);
      asked_unserved = λ h. served_old before e d b ∙ p.here_unserved there;
      asked_unsettled = λ h. passed_old (settles c) before e s ∙ p.here_unsettled there;
    }
    placed_by e (serves there a s left) p =
        let none : has_passed asks (e ∷ before) ≡ true → ⊥ = λ h. clash h (passed_old asks before e a ∙ p.here_unasked there) in record {
          here_unasked = λ h. absurd (clash h left);
          here_unserved = λ h. absurd (clash h left);
          here_unsettled = λ h. absurd (clash h left);
          asked_unserved = λ h. absurd (none h);
          asked_unsettled = λ h. absurd (none h);
        }
    placed_by e (answered served a d b same) p =
        let never : is_at_vat c (e ∷ before) ≡ true → ⊥ = λ h. clash served (p.here_unserved (sym same ∙ h)) in
        let none : has_passed asks (e ∷ before) ≡ true → ⊥ = λ h. clash served (p.asked_unserved (sym (passed_old asks before e a) ∙ h)) in record {
          here_unasked = λ h. absurd (never h);
          here_unserved = λ h. absurd (never h);
          here_unsettled = λ h. absurd (never h);
          asked_unserved = λ h. absurd (none h);
          asked_unsettled = λ h. absurd (none h);
        }
    placed_by e (faulted there a d b left) p =
        let none : has_passed asks (e ∷ before) ≡ true → ⊥ = λ h. no_fault p there (sym (passed_old asks before e a) ∙ h) in record {
          here_unasked = λ h. absurd (clash h left);
          here_unserved = λ h. absurd (clash h left);
          here_unsettled = λ h. absurd (clash h left);
          asked_unserved = λ h. absurd (none h);
          asked_unsettled = λ h. absurd (none h);
        }

  placed : (past : Past) → Each IsGood past → IsPlaced past
  placed [] good = record {
    here_unasked = λ h. refl;
    here_unserved = λ h. refl;
    here_unsettled = λ h. refl;
    asked_unserved = λ h. refl;
    asked_unsettled = λ h. refl;
  }
  placed (e ∷ before) good = placed_by before good.1 e (effect before e good.0) (placed before good.1)

  -- ---- what was asked for is asked for once

  asks_once : (before : Past) (e : DecodedRecord) → Each IsGood before → IsGood before e → asks before e ≡ true → has_passed asks before ≡ false
  asks_once before (Wire true k d rs (Bootstrap q)) past good same = unasked before past (fresh before d (good rule.Ref).unused_call same)
  asks_once before (Wire true k d rs (Call head t p)) past good same = (placed before past).here_unasked (named (λ x. is_at_vat x before) d (good rule.Here) same)
  asks_once before _ past good h = absurd (false≢true h)

  -- an own question that is opened for the call asks for it
  opens_asks : (k n : ℕ) (before : Past) (e : DecodedRecord) → opens (id k true n) before e ≡ true → is c (call_at (Some (point before e))) ≡ true → asks before e ≡ true
  opens_asks k n before (Wire true j d rs (Bootstrap q)) new same = same
  opens_asks k n before (Wire true j d rs (Call head t p)) new same = same
  opens_asks k n before (Wire false j d rs (Bootstrap q)) new same = absurd (false≢true (sym (ap (λ i. i.ours) (same_id_is (id k true n) (id j false q) new))))
  opens_asks k n before (Wire false j d rs (Call head t p)) new same = absurd (false≢true (sym (ap (λ i. i.ours) (same_id_is (id k true n) (id j false head.question) new))))
  opens_asks k n before _ new same = absurd (false≢true new)

  opening_now : (q : TableKey) (before : Past) (e : DecodedRecord) → opens q before e ≡ true → opening q (e ∷ before) ≡ Some (point before e)
  opening_now q before e new = ap (λ b. if b then Some (point before e) else opening q before) new

  opening_old : (q : TableKey) (before : Past) (e : DecodedRecord) → opens q before e ≡ false → opening q (e ∷ before) ≡ opening q before
  opening_old q before e old = ap (λ b. if b then Some (point before e) else opening q before) old

  -- a question stands for the call
  abbrev of_call : TableKey → Past → Bool
  of_call q past = is c (call_at (opening q past))

  opening_asked : (k n : ℕ) (past : Past) → of_call (id k true n) past ≡ true → has_passed asks past ≡ true
  opening_asked k n [] h = absurd (false≢true h)
  opening_asked k n (e ∷ before) h = elim (cases_Bool (opens (id k true n) before e)) [
    | inl new ↦ passed_now asks before e (opens_asks k n before e new (sym (ap (λ o. is c (call_at o)) (opening_now (id k true n) before e new)) ∙ h))
    | inr old ↦ passed_later asks before e (opening_asked k n before (sym (ap (λ o. is c (call_at o)) (opening_old (id k true n) before e old)) ∙ h))
  ]

  -- where a record opens a question for the call, none was opened for it before
  opened_alone : (k n j m : ℕ) (before : Past) (e : DecodedRecord) → Each IsGood before → IsGood before e → opens (id k true n) before e ≡ true → of_call (id k true n) (e ∷ before) ≡ true →
      of_call (id j true m) before ≡ true → ⊥
  opened_alone k n j m before e past good new h g =
      clash (opening_asked j m before g) (asks_once before e past good (opens_asks k n before e new (sym (ap (λ o. is c (call_at o)) (opening_now (id k true n) before e new)) ∙ h)))

  one_question : (k n j m : ℕ) (past : Past) → Each IsGood past → of_call (id k true n) past ≡ true → of_call (id j true m) past ≡ true → id k true n ≡ id j true m
  one_question k n j m [] good h g = absurd (false≢true h)
  one_question k n j m (e ∷ before) good h g = elim (cases_Bool (opens (id k true n) before e)) [
    | inl new ↦ elim (cases_Bool (opens (id j true m) before e)) [
      | inl other ↦ both_named (names_is (id k true n) _ new) (names_is (id j true m) _ other)
      | inr old ↦ absurd (opened_alone k n j m before e good.1 good.0 new h (sym (ap (λ o. is c (call_at o)) (opening_old (id j true m) before e old)) ∙ g))
    ]
    | inr old ↦ elim (cases_Bool (opens (id j true m) before e)) [
      | inl other ↦ absurd (opened_alone j m k n before e good.1 good.0 other g (sym (ap (λ o. is c (call_at o)) (opening_old (id k true n) before e old)) ∙ h))
      | inr apart ↦ one_question k n j m before good.1 (sym (ap (λ o. is c (call_at o)) (opening_old (id k true n) before e old)) ∙ h)
          (sym (ap (λ o. is c (call_at o)) (opening_old (id j true m) before e apart)) ∙ g)
    ]
  ]
    where
      both_named : {o : Option TableKey} {a b : TableKey} → o ≡ Some a → o ≡ Some b → a ≡ b
      both_named h g = cc

  -- ---- what was asked for comes back once

  back_asked : (before : Past) (e : DecodedRecord) → comes_back before e ≡ true → has_passed asks before ≡ true
  back_asked before (Wire false k d rs (Return head outcome)) h = opening_asked k head.answer before h
  back_asked before _ h = absurd (false≢true h)

  came_asked : (past : Past) → has_passed comes_back past ≡ true → has_passed asks past ≡ true
  came_asked [] h = absurd (false≢true h)
  came_asked (e ∷ before) h = elim (passed_or comes_back before e h) [
    | inl now ↦ passed_later asks before e (back_asked before e now)
    | inr old ↦ passed_later asks before e (came_asked before old)
  ]

  returned_some : (q : TableKey) (before : Past) (e : DecodedRecord) → opens q before e ≡ false → (returns q before e ≡ true) ⊎ (is_returned q before ≡ true) → is_returned q (e ∷ before) ≡ true
  returned_some q before e old h = ap (λ b. is_some (if b then None else if returns q before e then Some (point before e) else return_of q before)) old ∙ inner h
    where
      inner : (returns q before e ≡ true) ⊎ (is_returned q before ≡ true) → is_some (if returns q before e then Some (point before e) else return_of q before) ≡ true
      inner (inl now) = ap (λ b. is_some (if b then Some (point before e) else return_of q before)) now
      inner (inr old) = elim (cases_Bool (returns q before e)) [
        | inl now ↦ ap (λ b. is_some (if b then Some (point before e) else return_of q before)) now
        | inr apart ↦ ap (λ b. is_some (if b then Some (point before e) else return_of q before)) apart ∙ old
      ]

  back_returns : (k n : ℕ) (before : Past) (e : DecodedRecord) → Each IsGood before → comes_back before e ≡ true → of_call (id k true n) before ≡ true → returns (id k true n) before e ≡ true
  back_returns k n before (Wire false j d rs (Return head outcome)) past h g =
      subst (λ i. same_id i (id j true head.answer) ≡ true) (sym (one_question k n j head.answer before past g h)) (same_id_self (id j true head.answer))
  back_returns k n before _ past h g = absurd (false≢true h)

  opens_not_back : (k n : ℕ) (before : Past) (e : DecodedRecord) → opens (id k true n) before e ≡ true → comes_back before e ≡ true → ⊥
  opens_not_back k n before (Wire false j d rs (Return head outcome)) new h = false≢true new
  opens_not_back k n before _ new h = false≢true h

  -- the question of a call that came back is returned
  came_returned : (past : Past) → Each IsGood past → has_passed comes_back past ≡ true → (k n : ℕ) → of_call (id k true n) past ≡ true → is_returned (id k true n) past ≡ true
  came_returned [] good h k n g = absurd (false≢true h)
  came_returned (e ∷ before) good h k n g = elim (cases_Bool (opens (id k true n) before e)) [
    | inl new ↦ elim (passed_or comes_back before e h) [
      | inl now ↦ absurd (opens_not_back k n before e new now)
      | inr old ↦ absurd (clash (came_asked before old)
          (asks_once before e good.1 good.0 (opens_asks k n before e new (sym (ap (λ o. is c (call_at o)) (opening_now (id k true n) before e new)) ∙ g))))
    ]
    | inr old ↦
        let here : of_call (id k true n) before ≡ true = sym (ap (λ o. is c (call_at o)) (opening_old (id k true n) before e old)) ∙ g in
        returned_some (id k true n) before e old (elim (passed_or comes_back before e h) [
          | inl now ↦ inl (back_returns k n before e good.1 now here)
          | inr old ↦ inr (came_returned before good.1 old k n here)
        ])
  ]

  -- ---- so a field turns once

  module _ (path : List ℕ) where
    quiet_if : (x : Next) (b : Bool) → b ≡ false → (if b then Some x else None) ≡ None
    quiet_if x b h = ap (λ t. if t then Some x else None) h

    no_turn : (before : Past) (e : DecodedRecord) → settles c before e ≡ false → comes_back before e ≡ false → answers c path before e ≡ None
    no_turn before (Answer d results) s b = quiet_if _ (d == c) s
    no_turn before (AnswerBy d by) s b = quiet_if _ (d == c) s
    no_turn before (Fault d) s b = quiet_if _ (d == c) s
    no_turn before (Wire false k d rs (Return head (Results payload))) s b = quiet_if _ (is c (call_at (opening (id k true head.answer) before))) b
    no_turn before (Wire false k d rs (Return head Exception)) s b = quiet_if _ (is c (call_at (opening (id k true head.answer) before))) b
    no_turn before (Wire false k d rs (Return head Canceled)) s b = quiet_if _ (is c (call_at (opening (id k true head.answer) before))) b
    no_turn before (Wire false k d rs (Return head Elsewhere)) s b = refl
    no_turn before (Wire false k d rs (Return head (TakeFrom n))) s b = quiet_if _ (is c (call_at (opening (id k true head.answer) before))) b
    no_turn before _ s b = refl

    passed_parts : (test : Past → DecodedRecord → Bool) (before : Past) (e : DecodedRecord) → has_passed test (e ∷ before) ≡ false → (test before e ≡ false) × (has_passed test before ≡ false)
    passed_parts test before e h = elim (cases_Bool (test before e)) [
      | inl now ↦ absurd (clash (passed_now test before e now) h)
      | inr apart ↦ (apart, sym (passed_old test before e apart) ∙ h)
    ]

    no_turns : (past : Past) → is_settled c past ≡ false → has_passed comes_back past ≡ false → last_answer (answers c path) past ≡ None
    no_turns [] s b = refl
    no_turns (e ∷ before) s b =
        let ends = passed_parts (settles c) before e s in
        let backs = passed_parts comes_back before e b in
        ap (λ o. option_or o (last_answer (answers c path) before)) (no_turn before e ends.0 backs.0) ∙ no_turns before ends.1 backs.1

    field_stays : (past : Past) → is_settled c past ≡ false → has_passed comes_back past ≡ false → next past (FieldOf c path) ≡ stays
    field_stays past s b = ap (λ o. unwrap_or o stays) (no_turns past s b)

    turned_if : (x : Next) (b : Bool) → IsSome (if b then Some x else None) → b ≡ true
    turned_if x true h = refl
    turned_if x false h = absurd (false≢true h)

    never_back : (past : Past) → Each IsGood past → (has_passed asks past ≡ true → ⊥) → has_passed comes_back past ≡ false
    never_back past good never = elim (cases_Bool (has_passed comes_back past)) [
      | inl came ↦ absurd (never (came_asked past came))
      | inr none ↦ none
    ]

    -- results that were sent elsewhere turn nothing; any other Return turns a field of its own call alone
    return_turns : (before : Past) (k d : ℕ) (rs : List ℕ) (head : ReturnHead) (outcome : Outcome) → IsSome (answers c path before (Wire false k d rs (Return head outcome))) →
        of_call (id k true head.answer) before ≡ true
    return_turns before k d rs head (Results payload) turned = turned_if _ (is c (call_at (opening (id k true head.answer) before))) turned
    return_turns before k d rs head Exception turned = turned_if _ (is c (call_at (opening (id k true head.answer) before))) turned
    return_turns before k d rs head Canceled turned = turned_if _ (is c (call_at (opening (id k true head.answer) before))) turned
    return_turns before k d rs head Elsewhere turned = absurd (false≢true turned)
    return_turns before k d rs head (TakeFrom n) turned = turned_if _ (is c (call_at (opening (id k true head.answer) before))) turned

    -- a call that was served and isn't settled wasn't asked of another vat, so its fields stay
    served_stays : (before : Past) → Each IsGood before → is_served c before ≡ true → is_settled c before ≡ false → next before (FieldOf c path) ≡ stays
    served_stays before past served unsettled = field_stays before unsettled (never_back before past (λ asked. clash served ((placed before past).asked_unserved asked)))

    field_turns_once : (before : Past) (e : DecodedRecord) → Each IsGood before → IsGood before e → IsSome (answers c path before e) → next before (FieldOf c path) ≡ stays
    field_turns_once before (Answer d results) past good turned =
        let same : (d == c) ≡ true = turned_if _ (d == c) turned in
        let parts = and_parts (is_served d before && not (is_settled d before)) (distinct_paths results) (good rule.Answer) in
        let both = and_parts (is_served d before) (not (is_settled d before)) parts.0 in
        served_stays before past (named (λ x. is_served x before) d both.0 same) (not-true (is_settled c before) (named (λ x. not (is_settled x before)) d both.1 same))
    field_turns_once before (AnswerBy d by) past good turned =
        let same : (d == c) ≡ true = turned_if _ (d == c) turned in
        let both = and_parts (is_served d before) (not (is_settled d before)) (good rule.Answer) in
        served_stays before past (named (λ x. is_served x before) d both.0 same) (not-true (is_settled c before) (named (λ x. not (is_settled x before)) d both.1 same))
    field_turns_once before (Fault d) past good turned =
        let same : (d == c) ≡ true = turned_if _ (d == c) turned in
        let both = and_parts (is_at_vat d before || is_served d before) (not (is_settled d before)) (good rule.Answer) in
        field_stays before (not-true (is_settled c before) (named (λ x. not (is_settled x before)) d both.1 same))
        (never_back before past (no_fault before past (placed before past) (named (λ x. is_at_vat x before || is_served x before) d both.0 same)))
    field_turns_once before (Wire false k d rs (Return head outcome)) past good turned =
        let here : of_call (id k true head.answer) before ≡ true = return_turns before k d rs head outcome turned in
        let unreturned = not-true (is_returned (id k true head.answer) before) (and_parts (is_opened (id k true head.answer) before) (not (is_returned (id k true head.answer) before)) (good rule.QUse).returned_once).1 in
        field_stays before ((placed before past).asked_unsettled (opening_asked k head.answer before here)) (elim (cases_Bool (has_passed comes_back before)) [
          | inl came ↦ absurd (clash (came_returned before past came k head.answer here) unreturned)
          | inr none ↦ none
        ])
    field_turns_once before _ past good turned = absurd (false≢true turned)

-- ---- promises and imports

unkept : (past : Past) (r : ℕ) (p : ℕ) → is_promise p (view_of_reference past r) ≡ true → IsUnkept past (view_of_reference past r) → next past (Promise p) ≡ stays
unkept past r p same h = inner (view_of_reference past r) same h
  where
    inner : (o : Option View) → is_promise p o ≡ true → IsUnkept past o → next past (Promise p) ≡ stays
    inner (Some (Promise q)) same h = subst (λ x. next past (Promise x) ≡ stays) (eqb-true q p same) h
    inner _ same h = absurd (false≢true same)

kept_if : (x : Next) (b : Bool) → IsSome (if b then Some x else None) → b ≡ true
kept_if x true h = refl
kept_if x false h = absurd (false≢true h)

promise_turns_once : (before : Past) (e : DecodedRecord) (p : ℕ) → IsGood before e → IsSome (keeps p before e) → next before (Promise p) ≡ stays
promise_turns_once before (Fulfil r to) p good turned = unkept before r p (kept_if _ (is_promise p (view_of_reference before r)) turned) (good rule.Vow)
promise_turns_once before (Break r) p good turned = unkept before r p (kept_if _ (is_promise p (view_of_reference before r)) turned) (good rule.Vow)
promise_turns_once before _ p good turned = absurd (false≢true turned)

-- a number out of life has no Resolve
unresolved : (i : TableKey) (past : Past) → (not (is_in_life i past) || is_unresolved i past) ≡ true → is_resolved i past ≡ false
unresolved i past h = elim (cases_Bool (is_in_life i past)) [
  | inl alive ↦
      let rest : is_unresolved i past ≡ true = sym (ap (λ b. not b || is_unresolved i past) alive) ∙ h in
      not-true (is_resolved i past) (and_parts (unwrap_or (option_map began_promised (birth i past)) false) (not (is_resolved i past)) rest).1
  | inr out ↦ ap (λ b. is_some (if b then last_since (λ before e. is_some (begins i before e)) (λ before e. names i (promise_resolved e)) past else None)) out
]

import_turns_once : (before : Past) (e : DecodedRecord) (number place : ℕ) → IsGood before e → IsSome (resolves number place before e) → next before (Import number place) ≡ stays
import_turns_once before (Wire false k d rs (Resolve n resolution)) number place good turned =
    resolve_turns_once before k d rs n resolution (unresolved (id k false n) before (good rule.Resolve)) (Import number place) turned
import_turns_once before _ number place good turned = absurd (false≢true turned)

-- a good record turns only views that stay
pub turns_once : (before : Past) → Each IsGood before → (e : DecodedRecord) → IsGood before e → TurnsOnce before e
turns_once before past e good (Object object) turned = absurd (false≢true turned)
turns_once before past e good (Promise p) turned = promise_turns_once before e p good turned
turns_once before past e good (FieldOf call path) turned = field_turns_once call path before e past good turned
turns_once before past e good (Import number place) turned = import_turns_once before e number place good turned

-- each record that follows in a good log does so
pub each_turns_once : (later : List DecodedRecord) (past : Past) → Each IsGood (later ++ past) → EachAfter TurnsOnce later past
each_turns_once [] past good = tt
each_turns_once (e ∷ later) past good = (turns_once (later ++ past) good.1 e good.0, each_turns_once later past good.1)
