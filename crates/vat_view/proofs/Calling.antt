-- What one record more does to what looking back finds of calls.
use Rattle.std.proofs.Common.{◌≡◌, refl, ◌∙◌, ap, subst, ℕ, ◌==◌, [], ◌∷◌, Bool, true, false, not, ◌&&◌, ◌||◌, Option, Some, None, if◌then◌else◌, option_map}
use Rattle.std.specs.Prelude.{is_some, unwrap_or}
use Rattle.std.specs.List.{list_all}
use Rattle.std.specs.Option.{option_or}
use Rattle.std.proofs.lemmas.Bool.{and_parts, eqb-true, not-true}
use Rattle.number_tables.specs.declared.call_state.CallState.{CallState}
use Rattle.number_tables.specs.declared.call_state.CallChange.{CallChange}
use Rattle.number_tables.specs.declared.call_state.CallChange.TheVariants.{Left, Delivered, Faulted, Answered, Known}
use Rattle.vat_view.specs.Glue.CallTables.{Nothing, Begins, asked_of, call_state_of, arriving_call, bootstrap_call, change_of_call, sent_effect, received_effect, effect_from, effect_of, after_effect}
use Rattle.vat_view.specs.Types.{Bootstrap, Call, Return, Results, Exception, Canceled, TakeFrom, DecodedRecord, Make, Deliver, Answer, AnswerBy, Fault, Wire, View, Request, TableKey}
use Rattle.decoded_records.specs.Past.{Past, Point, point, id, is, last_answer, last_where, Each}
use Rattle.decoded_records.specs.Questions.{opening, call_at, is_late}
use Rattle.decoded_records.specs.Views.{view_of_reference, view_of_target}
use Rattle.decoded_records.specs.Calls.{request_of, moves, delivers, boots, settles, knows, has_passed, is_at_vat, is_served, is_settled, is_known, call_taken_from}
use Rattle.decoded_records.specs.Bindings.{Refers, is_bound_call}
use Rattle.vat_view.specs.Sound.{IsSound}
use Rattle.number_tables.specs.Glue.CallStates.{after_change}
use Rattle.vat_view.proofs.Unbound.{IsUnknown, unknown}

-- ---- news by the tables

sent_same : (opened other : TableKey → Option ℕ) → ((q : TableKey) → opened q ≡ other q) → (e : DecodedRecord) → sent_effect opened e ≡ sent_effect other e
sent_same opened other same (Wire true k c rs (Return head Exception)) = ap (λ o. change_of_call Left o) (same (id k false head.answer))
sent_same opened other same (Wire true k c rs (Return head Canceled)) = ap (λ o. change_of_call Left o) (same (id k false head.answer))
sent_same opened other same _ = refl

received_same : (target goal : Option View) (late tardy : Bool) (taken from : Option ℕ) (opened other : TableKey → Option ℕ) → target ≡ goal → late ≡ tardy → taken ≡ from → ((q : TableKey) → opened q ≡ other q) →
    (e : DecodedRecord) → received_effect target late taken opened e ≡ received_effect goal tardy from other e
received_same target goal late tardy taken from opened other same when by named (Wire false k c rs (Call head t p)) = ap (λ v. Begins c (arriving_call v head.interface head.method)) same
received_same target goal late tardy taken from opened other same when by named (Wire false k c rs (Return head (Results payload))) =
    ap (λ b. if b then Nothing else change_of_call Known (opened (id k true head.answer))) when ∙ ap (λ o. if tardy then Nothing else change_of_call Known o) (named (id k true head.answer))
received_same target goal late tardy taken from opened other same when by named (Wire false k c rs (Return head (TakeFrom n))) =
    ap (λ o. if is_some o then change_of_call Known (opened (id k true head.answer)) else Nothing) by ∙ ap (λ o. if is_some from then change_of_call Known o else Nothing) (named (id k true head.answer))
received_same target goal late tardy taken from opened other same when by named _ = refl

pub news_same : (named viewed : ℕ → Option View) (target goal : Option View) (late tardy : Bool) (taken from : Option ℕ) (opened other : TableKey → Option ℕ) →
    ((r : ℕ) → named r ≡ viewed r) → target ≡ goal → late ≡ tardy → taken ≡ from → ((q : TableKey) → opened q ≡ other q) → (e : DecodedRecord) →
    effect_from named target late taken opened e ≡ effect_from viewed goal tardy from other e
news_same named viewed target goal late tardy taken from opened other names same when by calls (Make c r f m) = ap (λ v. Begins c (arriving_call v f m)) (names r)
news_same named viewed target goal late tardy taken from opened other names same when by calls (Wire true k c rs m) = sent_same opened other calls (Wire true k c rs m)
news_same named viewed target goal late tardy taken from opened other names same when by calls (Wire false k c rs m) =
    received_same target goal late tardy taken from opened other same when by calls (Wire false k c rs m)
news_same named viewed target goal late tardy taken from opened other names same when by calls _ = refl

-- ---- what is known of a call, where b says whether the record now speaks of it

module _ (c : ℕ) (before : Past) where
  abbrev so_far : Option Request → Bool → Bool → Bool → Bool → CallState
  so_far a v s t k = record { asked = a; at_vat = v; served = s; settled = t; known = k }

  same_progress : (a : Option Request) (v s t k : Bool) → s ≡ false → t ≡ false → k ≡ false → Some (so_far a v s t k) ≡ Some (so_far a v false false false)
  same_progress a v s t k e f g = ap (λ x. Some (so_far a v x t k)) e ∙ ap (λ x. Some (so_far a v false x k)) f ∙ ap (λ x. Some (so_far a v false false x)) g

  -- it comes to the vat
  abbrev there : Request → Bool → Bool
  there a b = unwrap_or (option_or (if is_some (if b then Some a else None) then Some true else if false then Some false else None) (last_answer (moves c) before)) false

  abbrev brought : Request → Bool → Option CallState
  brought a b =
      if (b || false) || is_bound_call before c then Some (so_far (if there a b then option_or (if b then Some a else None) (request_of c before) else None) (there a b)
      (is_served c before) (is_settled c before) (is_known c before)) else None

  served_none : IsUnknown c before → is_served c before ≡ false
  served_none unknown = ap (λ b. b || has_passed (boots c) before) unknown.delivered ∙ unknown.booted

  brought_step : (a : Request) (b : Bool) → (b ≡ true → IsUnknown c before) → brought a b ≡ (if b then Some (so_far (Some a) true false false false) else call_state_of c before)
  brought_step a true h = let u : IsUnknown c before = h refl in
      same_progress (Some a) true (is_served c before) (is_settled c before) (is_known c before) (served_none u) u.settled u.known
  brought_step a false h = refl

  -- it is that of a Bootstrap
  abbrev booted : Point → Bool → Bool → Option CallState
  booted p received b =
      if (b || false) || is_bound_call before c then Some (so_far (asked_of c before) (is_at_vat c before)
      (has_passed (delivers c) before || is_some (if received && b then Some p else last_where (boots c) before)) (is_settled c before) (is_known c before)) else None

  same_begun : (a : Option Request) (v s t k r : Bool) → a ≡ None → v ≡ false → s ≡ r → t ≡ false → k ≡ false → Some (so_far a v s t k) ≡ Some (so_far None false r false false)
  same_begun a v s t k r d e f g h =
      ap (λ x. Some (so_far x v s t k)) d ∙ ap (λ x. Some (so_far None x s t k)) e ∙ ap (λ x. Some (so_far None false x t k)) f
      ∙ ap (λ x. Some (so_far None false r x k)) g ∙ ap (λ x. Some (so_far None false r false x)) h

  at_vat_none : IsUnknown c before → is_at_vat c before ≡ false
  at_vat_none unknown = ap (λ o. unwrap_or o false) unknown.moved

  asked_none : IsUnknown c before → asked_of c before ≡ None
  asked_none unknown = ap (λ b. if b then request_of c before else None) (at_vat_none unknown)

  booted_step : (p : Point) (received b : Bool) → (b ≡ true → IsUnknown c before) → booted p received b ≡ (if b then Some (bootstrap_call received) else call_state_of c before)
  booted_step p true true h = let u : IsUnknown c before = h refl in
      same_begun (asked_of c before) (is_at_vat c before) (has_passed (delivers c) before || true) (is_settled c before) (is_known c before) true (asked_none u) (at_vat_none u)
      (ap (λ b. b || true) u.delivered) u.settled u.known
  booted_step p false true h = let u : IsUnknown c before = h refl in
      same_begun (asked_of c before) (is_at_vat c before) (is_served c before) (is_settled c before) (is_known c before) false (asked_none u) (at_vat_none u) (served_none u) u.settled u.known
  booted_step p true false h = refl
  booted_step p false false h = refl

  -- this happens to it
  abbrev progress_if : Bool → Option CallState
  progress_if bound = if bound then Some (so_far (asked_of c before) (is_at_vat c before) (is_served c before) (is_settled c before) (is_known c before)) else None

  abbrev stays : Bool → Bool
  stays b = unwrap_or (option_or (if b then Some false else None) (last_answer (moves c) before)) false

  abbrev kept : Bool → Option Request
  kept b = if stays b then request_of c before else None

  abbrev left : Bool → Bool → Option CallState
  left b bound =
      if bound then Some (so_far (kept b) (stays b) (is_served c before) (is_settled c before)
      (is_known c before)) else None

  left_step : (b bound : Bool) → left b bound ≡ (if b then option_map (after_change Left) (progress_if bound) else progress_if bound)
  left_step true true = refl
  left_step true false = refl
  left_step false bound = refl

  abbrev delivered : Point → Bool → Bool → Option CallState
  delivered p b bound =
      if bound then Some (so_far (kept b) (stays b)
      (is_some (if b then Some p else last_where (delivers c) before) || has_passed (boots c) before) (is_settled c before) (is_known c before)) else None

  delivered_step : (p : Point) (b bound : Bool) → delivered p b bound ≡ (if b then option_map (after_change Delivered) (progress_if bound) else progress_if bound)
  delivered_step p true true = refl
  delivered_step p true false = refl
  delivered_step p false bound = refl

  abbrev faulted : Point → Bool → Bool → Option CallState
  faulted p b bound =
      if bound then Some (so_far (kept b) (stays b) (is_served c before)
      (is_some (if b then Some p else last_where (settles c) before)) (is_known c before)) else None

  faulted_step : (p : Point) (b bound : Bool) → faulted p b bound ≡ (if b then option_map (after_change Faulted) (progress_if bound) else progress_if bound)
  faulted_step p true true = refl
  faulted_step p true false = refl
  faulted_step p false bound = refl

  abbrev answered : Point → Bool → Bool → Option CallState
  answered p b bound =
      if bound then Some (so_far (asked_of c before) (is_at_vat c before) (is_served c before)
      (is_some (if b then Some p else last_where (settles c) before)) (is_some (if b then Some p else last_where (knows c) before))) else None

  answered_step : (p : Point) (b bound : Bool) → answered p b bound ≡ (if b then option_map (after_change Answered) (progress_if bound) else progress_if bound)
  answered_step p true true = refl
  answered_step p true false = refl
  answered_step p false bound = refl

  abbrev made_known : Point → Bool → Bool → Option CallState
  made_known p b bound =
      if bound then Some (so_far (asked_of c before) (is_at_vat c before) (is_served c before) (is_settled c before) (is_some (if b then Some p else last_where (knows c) before))) else None

  known_step : (p : Point) (b bound : Bool) → made_known p b bound ≡ (if b then option_map (after_change Known) (progress_if bound) else progress_if bound)
  known_step p true true = refl
  known_step p true false = refl
  known_step p false bound = refl

  -- by the call of a question
  left_by : (o : Option ℕ) → left (is c o) (is_bound_call before c) ≡ after_effect (change_of_call Left o) c (call_state_of c before)
  left_by (Some d) = left_step (d == c) (is_bound_call before c)
  left_by None = refl

  known_by : (p : Point) (late : Bool) (o : Option ℕ) → made_known p (is c o && not late) (is_bound_call before c) ≡ after_effect (if late then Nothing else change_of_call Known o) c (call_state_of c before)
  known_by p true (Some d) = never (d == c)
    where
      never : (b : Bool) → made_known p (b && false) (is_bound_call before c) ≡ call_state_of c before
      never true = refl
      never false = refl
  known_by p true None = refl
  known_by p false (Some d) = once (d == c)
    where
      once : (b : Bool) → made_known p (b && true) (is_bound_call before c) ≡ (if b then option_map (after_change Known) (progress_if (is_bound_call before c)) else progress_if (is_bound_call before c))
      once true = known_step p true (is_bound_call before c)
      once false = refl
  known_by p false None = refl

  -- by the call whose results are taken
  taken_by : (p : Point) (t o : Option ℕ) → made_known p (is_some (if is c o then t else None)) (is_bound_call before c)
      ≡ after_effect (if is_some t then change_of_call Known o else Nothing) c (call_state_of c before)
  taken_by p (Some by) (Some d) = once (d == c)
    where
      once : (b : Bool) → made_known p (is_some (if b then Some by else None)) (is_bound_call before c) ≡ (if b then option_map (after_change Known) (progress_if (is_bound_call before c)) else progress_if (is_bound_call before c))
      once true = known_step p true (is_bound_call before c)
      once false = refl
  taken_by p (Some by) None = refl
  taken_by p None (Some d) = never (d == c)
    where
      nothing : Option ℕ
      nothing = None

      never : (b : Bool) → made_known p (is_some (if b then nothing else None)) (is_bound_call before c) ≡ call_state_of c before
      never true = refl
      never false = refl
  taken_by p None None = refl

-- a call that is newly bound was unknown
was_unknown : (before : Past) → Each IsSound before → (c d : ℕ) → list_all (λ x. not (is_bound_call before x)) (d ∷ []) ≡ true → (d == c) ≡ true → IsUnknown c before
was_unknown before sound c d h same =
    unknown before sound c (subst (λ x. is_bound_call before x ≡ false) (eqb-true d c same) (not-true (is_bound_call before d) (and_parts (not (is_bound_call before d)) true h).0))

-- what is known of a call after a record, by what was known before
pub progress_step : (c : ℕ) (before : Past) → Each IsSound before → (e : DecodedRecord) → Refers before e → call_state_of c (e ∷ before) ≡ after_effect (effect_of before e) c (call_state_of c before)
progress_step c before sound (Make d r f m) refers =
    brought_step c before (record { goal = view_of_reference before r; interface = f; method = m }) (d == c) (was_unknown before sound c d refers.unused_call)
progress_step c before sound (Deliver d object) refers = delivered_step c before (point before (Deliver d object)) (d == c) (is_bound_call before c)
progress_step c before sound (Answer d results) refers = answered_step c before (point before (Answer d results)) (d == c) (is_bound_call before c)
progress_step c before sound (AnswerBy d by) refers = answered_step c before (point before (AnswerBy d by)) (d == c) (is_bound_call before c)
progress_step c before sound (Fault d) refers = faulted_step c before (point before (Fault d)) (d == c) (is_bound_call before c)
progress_step c before sound (Wire true k d rs (Bootstrap q)) refers =
    booted_step c before (point before (Wire true k d rs (Bootstrap q))) false (d == c) (was_unknown before sound c d refers.unused_call)
progress_step c before sound (Wire true k d rs (Call head t p)) refers = left_step c before (d == c) (is_bound_call before c)
progress_step c before sound (Wire true k d rs (Return head Exception)) refers = left_by c before (call_at (opening (id k false head.answer) before))
progress_step c before sound (Wire true k d rs (Return head Canceled)) refers = left_by c before (call_at (opening (id k false head.answer) before))
progress_step c before sound (Wire false k d rs (Bootstrap q)) refers =
    booted_step c before (point before (Wire false k d rs (Bootstrap q))) true (d == c) (was_unknown before sound c d refers.unused_call)
progress_step c before sound (Wire false k d rs (Call head t p)) refers =
    let e : DecodedRecord = Wire false k d rs (Call head t p) in
    brought_step c before (record { goal = view_of_target before e; interface = head.interface; method = head.method }) (d == c) (was_unknown before sound c d refers.unused_call)
progress_step c before sound (Wire false k d rs (Return head (Results payload))) refers =
    let e : DecodedRecord = Wire false k d rs (Return head (Results payload)) in known_by c before (point before e) (is_late before e) (call_at (opening (id k true head.answer) before))
progress_step c before sound (Wire false k d rs (Return head (TakeFrom n))) refers =
    let e : DecodedRecord = Wire false k d rs (Return head (TakeFrom n)) in taken_by c before (point before e) (call_taken_from before e) (call_at (opening (id k true head.answer) before))
progress_step c before sound _ refers = refl

-- what is newly bound wasn't
fresh : (before : Past) (c d : ℕ) → list_all (λ x. not (is_bound_call before x)) (c ∷ []) ≡ true → c ≡ d → is_bound_call before d ≡ false
fresh before c d h same = subst (λ x. is_bound_call before x ≡ false) same (not-true (is_bound_call before c) (and_parts (not (is_bound_call before c)) true h).0)

begins_same : (c d : ℕ) (p q : CallState) → Begins c p ≡ Begins d q → c ≡ d
begins_same c d p q e = cc

step_begins : (step : CallChange) (o : Option ℕ) (d : ℕ) (p : CallState) → change_of_call step o ≡ Begins d p → ⊥
step_begins step (Some c) d p e = cc
step_begins step None d p e = cc

known_begins : (late : Bool) (o : Option ℕ) (d : ℕ) (p : CallState) → (if late then Nothing else change_of_call Known o) ≡ Begins d p → ⊥
known_begins true o d p e = cc
known_begins false o d p e = step_begins Known o d p e

taken_begins : (t o : Option ℕ) (d : ℕ) (p : CallState) → (if is_some t then change_of_call Known o else Nothing) ≡ Begins d p → ⊥
taken_begins (Some by) o d p e = step_begins Known o d p e
taken_begins None o d p e = cc

pub begins_unbound : (before : Past) (e : DecodedRecord) → Refers before e → (d : ℕ) (p : CallState) → effect_of before e ≡ Begins d p → is_bound_call before d ≡ false
begins_unbound before (Make c r f m) refers d p h = fresh before c d refers.unused_call (begins_same c d _ p h)
begins_unbound before (Wire true k c rs (Bootstrap q)) refers d p h = fresh before c d refers.unused_call (begins_same c d _ p h)
begins_unbound before (Wire false k c rs (Bootstrap q)) refers d p h = fresh before c d refers.unused_call (begins_same c d _ p h)
begins_unbound before (Wire false k c rs (Call head t params)) refers d p h = fresh before c d refers.unused_call (begins_same c d _ p h)
begins_unbound before (Wire true k c rs (Return head Exception)) refers d p h = absurd (step_begins Left (call_at (opening (id k false head.answer) before)) d p h)
begins_unbound before (Wire true k c rs (Return head Canceled)) refers d p h = absurd (step_begins Left (call_at (opening (id k false head.answer) before)) d p h)
begins_unbound before (Wire false k c rs (Return head (Results payload))) refers d p h =
    absurd (known_begins (is_late before (Wire false k c rs (Return head (Results payload)))) (call_at (opening (id k true head.answer) before)) d p h)
begins_unbound before (Wire false k c rs (Return head (TakeFrom n))) refers d p h =
    absurd (taken_begins (call_taken_from before (Wire false k c rs (Return head (TakeFrom n)))) (call_at (opening (id k true head.answer) before)) d p h)
begins_unbound before _ refers d p h = absurd (let no : ⊥ = cc in no)
