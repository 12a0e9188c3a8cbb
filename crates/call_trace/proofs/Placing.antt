-- A call that a log has at its vat is there in the run, and goes where its goal leads.
use Rattle.std.proofs.Common.{◌≡◌, ◌⊎◌, inl, inr, refl, sym, ◌∙◌, ap, subst, ℕ, ◌==◌, List, [], ◌∷◌, ◌++◌, Bool, true, false, not, ◌&&◌, ◌||◌, Option, Some, None, if◌then◌else◌, option_and_then, option_map, is_some, IsSome, IsSomeAnd, eqb-true}
use Rattle.std.specs.Prelude.{map, filter, unwrap_or}
use Rattle.std.specs.List.{list_any}
use Rattle.std.specs.Option.{option_or}
use Rattle.std.proofs.lemmas.Bool.{cases_Bool, eq-eqb, and_left, and_right, and_from, and_parts, or_left, or_right, false_from_ne_true, false≢true}
use Rattle.decoded_records.specs.Past.{Past, Each, point, id, last_answer, last_where}
use Rattle.decoded_records.specs.Bindings.{Refers}
use Rattle.decoded_records.specs.Calls.{brings, takes, request_of, goal_of, delivers, boots, has_passed, is_at_vat, is_served, is_settled, moves as log_moves}
use Rattle.decoded_records.specs.Views.{view_of_reference, view_of_target}
use Rattle.decoded_records.specs.Questions.{is_late, call_of}
use Rattle.decoded_records.specs.declared.request.Request.{Request as AskedOf}
use Rattle.agree.proofs.Good.{all_sound}
use Rattle.vat_view.specs.Walks.{here as stay}
use Rattle.vat_rules.specs.Judged.{IsGood}
use Rattle.vat_rules.specs.Ways.{LeadsTo, AreOneThere}
use Rattle.vat_rules.specs.declared.rule.Rule.TheVariants as rule
use Rattle.rpc_view.specs.declared.message.Payload.{Payload}
use Rattle.call_trace.specs.Types.{RpcMessage, Target, Results, Exception, Canceled, Elsewhere, TakeFrom, Bootstrap, Call, CallHead, Return, Finish, Resolve, Release, Disembargo, Abort, DecodedRecord, Host, Vow, Fulfil, Break, Make, Field, Deliver, Answer, AnswerBy, Fault, Wire, View, Object, Name, Cap, Message, Step}
use Rattle.call_trace.specs.Naming.{Naming, naming, call_named, cap_named}
use Rattle.call_trace.specs.Said.{message_of_record, say_call, say_return, say_taken, say_resolve, caps_named, promise_named, call_answered, all_there, caps_at_paths}
use Rattle.call_trace.specs.Part.{reference_named, promise_in, result_named, resolves_released, heard_late, Says, PairsOff}
use Rattle.call_trace.specs.Placed.{AsksFor, IsThere}
use Rattle.call_trace.specs.Within.{IsWithin}
use Rattle.call_trace.proofs.AsSent.{read, heard, says_read, says_heard}
use Rattle.call_trace.proofs.Naming.{mapped_is, then_is, call_keeps, cap_keeps}
use Rattle.call_trace.proofs.Within.{NamesFollow, heads, tails, each_earlier, ones_meet_there}
use Rattle.call_trace.proofs.Using.{known_named, target_known}
use Rattle.run_model.specs.Leads.{Meets}
use Rattle.run_model.specs.Leads.{Leads as RunLeads}
use Rattle.run_model.specs.Legal.{IsLegal, MayCome, MaySend, begins_call, arrives}
use Rattle.run_model.specs.Links.{IsLinked}
use Rattle.run_model.specs.Places.{Asked, asked_by_parts, Move, brings_it, takes_it_away, leaves_it, move_of, asked_after, at_vat}
use Rattle.run_model.specs.Steps.{is_same_call, call, vat_of}
use Rattle.run_model.specs.Steps.{EachStep}
use Rattle.run_model.proofs.Meeting.{meets_object}
use Rattle.run_model.proofs.Once.{names_same, or_either}
use Rattle.run_model.proofs.Places.{Place, idle, held, flying, place, this_call, at_no_vat}
use Rattle.run_model.proofs.Spent.{spends, arrived_spent}
use Rattle.run_model.proofs.Turning.{clash, same_to_itself}
use Rattle.run_model.specs.declared.cap.Cap.TheVariants as cap
use Rattle.run_model.specs.declared.message.Message.TheVariants as message
use Rattle.run_model.specs.declared.plain.Plain.TheVariants as plain
use Rattle.run_model.specs.declared.step.Step.TheVariants as step

-- ---- the last step of a vat

abbrev StandsLast : (Step → Bool) → List Step → Step → List Step → Type 0
StandsLast p before s rest = (later earlier : List Step) × (before ≡ later ++ s ∷ earlier) × (filter p earlier ≡ rest)

stands_last : (p : Step → Bool) (before rest : List Step) (s : Step) → filter p before ≡ s ∷ rest → StandsLast p before s rest
stands_last p [] rest s h = absurd (let no : ⊥ = cc in no)
stands_last p (x ∷ before) rest s h = elim (cases_Bool (p x)) [
  | inl kept ↦
      let e : x ∷ filter p before ≡ s ∷ rest = sym (ap (λ b. if b then x ∷ filter p before else filter p before) kept) ∙ h in
      ([], before, ap (λ y. y ∷ before) (heads e), tails e)
  | inr other ↦
      let r = stands_last p before rest s (sym (ap (λ b. if b then x ∷ filter p before else filter p before) other) ∙ h) in
      (x ∷ r.0, r.1, ap (λ l. x ∷ l) r.2, r.3)
]

-- a log without its last record, in the run before that record's step
pub record IsStepBack (v : ℕ) (es : Past) (s : Step) (steps before : List Step) : Type 0 where
  pub later : List Step
  pub earlier : List Step
  pub whole : before ≡ later ++ s ∷ earlier
  pub within : IsWithin v es steps earlier
  pub legal : IsLegal earlier s
  pub linked : IsLinked earlier s

pub step_back : (v : ℕ) (e : DecodedRecord) (es : Past) (s : Step) (steps before : List Step) → IsWithin v (e ∷ es) (s ∷ steps) before → IsStepBack v es s steps before
step_back v e es s steps before w =
    let at = stands_last (λ s. vat_of s == v) before steps s w.own in
    let legal = each_earlier IsLegal at.0 (s ∷ at.1) (subst (EachStep IsLegal) at.2 w.legal) in
    let linked = each_earlier IsLinked at.0 (s ∷ at.1) (subst (EachStep IsLinked) at.2 w.linked) in
    record {
      later = at.0;
      earlier = at.1;
      whole = at.2;
      within = record { paired = w.paired.1; refers = w.refers.1; own = at.3; legal = legal.1; linked = linked.1 };
      legal = legal.0;
      linked = linked.0;
    }

-- ---- where a call is depends on the vat's own steps

move_off : (a b : Bool) (m : Move) → a ≡ false → (if a && b then m else leaves_it) ≡ leaves_it
move_off a b m e = ap (λ t. if t then m else leaves_it) (and_left a b e)

moved_elsewhere : (name : Name) (v : ℕ) (s : Step) → (vat_of s == v) ≡ false → move_of name v s ≡ leaves_it
moved_elsewhere name v (step.Make w number c r interface method) apart = move_off (w == v) (is_same_call (call w number) name) _ apart
moved_elsewhere name v (step.Receive w k (message.Call d target interface method caps) bound) apart = move_off (w == v) (is_same_call d name) _ apart
moved_elsewhere name v (step.Receive w k m bound) apart = refl
moved_elsewhere name v (step.Send w k (message.Call d target interface method caps)) apart = move_off (w == v) (is_same_call d name) _ apart
moved_elsewhere name v (step.Send w k m) apart = refl
moved_elsewhere name v (step.Deliver w d object) apart = move_off (w == v) (is_same_call d name) _ apart
moved_elsewhere name v (step.Fault w d) apart = move_off (w == v) (is_same_call d name) _ apart
moved_elsewhere name v s apart = refl

at_by_own : (name : Name) (v : ℕ) (before : List Step) → at_vat (filter (λ s. vat_of s == v) before) name v ≡ at_vat before name v
at_by_own name v [] = refl
at_by_own name v (s ∷ before) =
    let own : List Step = filter (λ s. vat_of s == v) before in
    elim (cases_Bool (vat_of s == v)) [
      | inl kept ↦ ap (λ b. at_vat (if b then s ∷ own else own) name v) kept ∙ ap (λ o. asked_after (move_of name v s) o) (at_by_own name v before)
      | inr other ↦
          ap (λ b. at_vat (if b then s ∷ own else own) name v) other ∙ at_by_own name v before
          ∙ ap (λ m. asked_after m (at_vat before name v)) (sym (moved_elsewhere name v s other))
    ]

pub at_own : (name : Name) (v : ℕ) (before steps : List Step) → filter (λ s. vat_of s == v) before ≡ steps → at_vat steps name v ≡ at_vat before name v
at_own name v before steps own = ap (λ l. at_vat l name v) (sym own) ∙ at_by_own name v before

-- ---- a call that isn't begun, or is spent, is at no vat

unbegun_nowhere : (before : List Step) (name : Name) (v : ℕ) → Place name before → list_any (begins_call name) before ≡ false → at_vat before name v ≡ None
unbegun_nowhere before name v (idle none all) h = none v
unbegun_nowhere before name v (held u rest all begun fresh) h = absurd (clash begun h)
unbegun_nowhere before name v (flying none left begun fresh) h = none v

spent_nowhere : (before : List Step) (name : Name) (v : ℕ) → Place name before → list_any (spends name) before ≡ true → at_vat before name v ≡ None
spent_nowhere before name v (idle none all) h = none v
spent_nowhere before name v (held u rest all begun fresh) h = absurd (clash h fresh)
spent_nowhere before name v (flying none left begun fresh) h = none v

-- ---- a call that is served in the log arrived in the run

some_own : (test p : Step → Bool) (before : List Step) → list_any test (filter p before) ≡ true → list_any test before ≡ true
some_own test p [] h = h
some_own test p (s ∷ before) h = elim (cases_Bool (p s)) [
  | inl kept ↦ elim (or_either (test s) (list_any test (filter p before)) (sym (ap (λ b. list_any test (if b then s ∷ filter p before else filter p before)) kept) ∙ h)) [
    | inl here ↦ or_left (test s) (list_any test before) here
    | inr rest ↦ or_right (test s) (list_any test before) (some_own test p before rest)
  ]
  | inr other ↦ or_right (test s) (list_any test before) (some_own test p before (sym (ap (λ b. list_any test (if b then s ∷ filter p before else filter p before)) other) ∙ h))
]

one_answer : {A : Type 0} (x y : A) (o : Option A) → o ≡ Some x → o ≡ Some y → x ≡ y
one_answer {A} x y o p q = let same : ◌≡◌ {A = Option A} (Some x) (Some y) = sym p ∙ q in cc

-- a call has a name, and a vat's steps bring it to be answered
abbrev HasArrived : ℕ → Past → List Step → ℕ → Type 0
HasArrived v es steps c = (name : Name) × (call_named v es steps c ≡ Some name) × (list_any (arrives name v) steps ≡ true)

arrived_here : (v : ℕ) (name : Name) → ((v == v) && is_same_call name name) ≡ true
arrived_here v name = and_from (v == v) (is_same_call name name) (eq-eqb v v refl) (same_to_itself name)

delivery_arrives : (v c object : ℕ) (es : Past) (steps : List Step) (s : Step) → Says v es steps (Deliver c object) s → HasArrived v (Deliver c object ∷ es) (s ∷ steps) c
delivery_arrives v c object es steps s says =
    let name = mapped_is (λ name. step.Deliver v name object) (call_named v (Deliver c object ∷ es) (s ∷ steps) c) s says in
    (name.0, name.1, or_left (arrives name.0 v s) (list_any (arrives name.0 v) steps) (ap (arrives name.0 v) (sym name.2) ∙ arrived_here v name.0))

-- what is read as a Bootstrap is one
read_boot : (es : Past) (e : DecodedRecord) (m : Message) (name : Name) → read es e m ≡ message.Boot name → m ≡ message.Boot name
read_boot es e (message.Return c results caps) name h = absurd (at (is_late es e) h)
  where
    at : (b : Bool) → (if b then message.Late c else message.Return c results caps) ≡ message.Boot name → ⊥
    at true h = cc
    at false h = cc
read_boot es e (message.Resolve promise c) name h = absurd (at (resolves_released es e) h)
  where
    at : (b : Bool) → (if b then message.Resolve cap.Nothing c else message.Resolve promise c) ≡ message.Boot name → ⊥
    at true h = cc
    at false h = cc
read_boot es e (message.Broken promise) name h = absurd (at (resolves_released es e) h)
  where
    at : (b : Bool) → (if b then message.Broken cap.Nothing else message.Broken promise) ≡ message.Boot name → ⊥
    at true h = cc
    at false h = cc
read_boot es e m name h = h

boot_arrives : (v k c q : ℕ) (rs : List ℕ) (es : Past) (steps : List Step) (s : Step) → Says v es steps (Wire false k c rs (Bootstrap q)) s →
    HasArrived v (Wire false k c rs (Bootstrap q) ∷ es) (s ∷ steps) c
boot_arrives v k c q rs es steps s says =
    let e = Wire false k c rs (Bootstrap q) in
    let name = mapped_is message.Boot (call_named v (e ∷ es) (s ∷ steps) c) (read es e says.message) (says_read says refl) in
    let booted = read_boot es e says.message name.0 (sym name.2) in
    let is : s ≡ step.Receive v k (message.Boot name.0) says.bound = says.step ∙ ap (λ m. step.Receive v k m says.bound) booted in
    (name.0, name.1, or_left (arrives name.0 v s) (list_any (arrives name.0 v) steps) (ap (arrives name.0 v) is ∙ arrived_here v name.0))

passed_first : (test : Past → DecodedRecord → Bool) (es : Past) (e : DecodedRecord) → has_passed test (e ∷ es) ≡ true → (test es e ≡ true) ⊎ (has_passed test es ≡ true)
passed_first test es e h = elim (cases_Bool (test es e)) [
  | inl now ↦ inl now
  | inr old ↦ inr (sym (ap (λ b. is_some (if b then Some (point es e) else last_where test es)) old) ∙ h)
]

call_grows : (v : ℕ) (es : Past) (steps : List Step) (e : DecodedRecord) (s : Step) (c : ℕ) (name : Name) → Refers es e → call_named v es steps c ≡ Some name →
    call_named v (e ∷ es) (s ∷ steps) c ≡ Some name
call_grows v es steps e s c name refers h = call_keeps v (e ∷ []) es (s ∷ []) steps refl (refers, tt) c name h

arrived_then : (v : ℕ) (es : Past) (steps : List Step) (e : DecodedRecord) (s : Step) (c : ℕ) → Refers es e → HasArrived v es steps c → HasArrived v (e ∷ es) (s ∷ steps) c
arrived_then v es steps e s c refers a = (a.0, call_grows v es steps e s c a.0 refers a.1, or_right (arrives a.0 v s) (list_any (arrives a.0 v) steps) a.2)

delivered_now : (v : ℕ) (es : Past) (steps : List Step) (e : DecodedRecord) (s : Step) (c : ℕ) → Says v es steps e s → delivers c es e ≡ true → HasArrived v (e ∷ es) (s ∷ steps) c
delivered_now v es steps (Deliver d object) s c says h = subst (HasArrived v (Deliver d object ∷ es) (s ∷ steps)) (eqb-true d c h) (delivery_arrives v d object es steps s says)
delivered_now v es steps e s c says h = absurd (false≢true h)

booted_now : (v : ℕ) (es : Past) (steps : List Step) (e : DecodedRecord) (s : Step) (c : ℕ) → Says v es steps e s → boots c es e ≡ true → HasArrived v (e ∷ es) (s ∷ steps) c
booted_now v es steps (Wire false k d rs (Bootstrap q)) s c says h = subst (HasArrived v (Wire false k d rs (Bootstrap q) ∷ es) (s ∷ steps)) (eqb-true d c h) (boot_arrives v k d q rs es steps s says)
booted_now v es steps e s c says h = absurd (false≢true h)

delivered_arrives : (v : ℕ) (es : Past) (steps : List Step) → PairsOff v es steps → Each Refers es → (c : ℕ) → has_passed (delivers c) es ≡ true → HasArrived v es steps c
delivered_arrives v [] [] part refers c h = absurd (false≢true h)
delivered_arrives v [] (s ∷ steps) part refers c h = absurd part
delivered_arrives v (e ∷ es) [] part refers c h = absurd part
delivered_arrives v (e ∷ es) (s ∷ steps) part refers c h = elim (passed_first (delivers c) es e h) [
  | inl now ↦ delivered_now v es steps e s c part.0 now
  | inr old ↦ arrived_then v es steps e s c refers.0 (delivered_arrives v es steps part.1 refers.1 c old)
]

booted_arrives : (v : ℕ) (es : Past) (steps : List Step) → PairsOff v es steps → Each Refers es → (c : ℕ) → has_passed (boots c) es ≡ true → HasArrived v es steps c
booted_arrives v [] [] part refers c h = absurd (false≢true h)
booted_arrives v [] (s ∷ steps) part refers c h = absurd part
booted_arrives v (e ∷ es) [] part refers c h = absurd part
booted_arrives v (e ∷ es) (s ∷ steps) part refers c h = elim (passed_first (boots c) es e h) [
  | inl now ↦ booted_now v es steps e s c part.0 now
  | inr old ↦ arrived_then v es steps e s c refers.0 (booted_arrives v es steps part.1 refers.1 c old)
]

-- a call that is served in the log has a name, and arrived at the vat in the run
pub served_arrived : (v : ℕ) (es : Past) (steps before : List Step) → IsWithin v es steps before → (c : ℕ) → is_served c es ≡ true →
    (name : Name) × (call_named v es steps c ≡ Some name) × (list_any (arrives name v) before ≡ true)
served_arrived v es steps before w c h =
    let a : HasArrived v es steps c = elim (or_either (has_passed (delivers c) es) (has_passed (boots c) es) h) [
      | inl delivered ↦ delivered_arrives v es steps w.paired w.refers c delivered
      | inr booted ↦ booted_arrives v es steps w.paired w.refers c booted
    ] in
    (a.0, a.1, some_own (arrives a.0 v) (λ s. vat_of s == v) before (subst (λ l. list_any (arrives a.0 v) l ≡ true) (sym w.own) a.2))

-- ---- what a record with its step does to the places of calls

data Effect (v : ℕ) (es : Past) (steps : List Step) (e : DecodedRecord) (s : Step) : Type 0 where
  -- nothing, in the run
  quiet : ((c : ℕ) → brings c es e ≡ None) → ((name : Name) → move_of name v s ≡ leaves_it) → Effect v es steps e s
  -- a call comes, whose name was nowhere
  comes : (d : ℕ) (name : Name) (a : AskedOf) (here : Asked) → ((c : ℕ) → brings c es e ≡ (if d == c then Some a else None)) → call_named v (e ∷ es) (s ∷ steps) d ≡ Some name →
      ((other : Name) → move_of other v s ≡ (if (v == v) && is_same_call name other then brings_it here else leaves_it)) → at_vat steps name v ≡ None →
      AsksFor (cap_named v (e ∷ es) (s ∷ steps)) here a → Effect v es steps e s
  -- a call goes that was at the vat, or was nowhere
  goes : (d : ℕ) (name : Name) → ((c : ℕ) → brings c es e ≡ None) → ((c : ℕ) → takes c es e ≡ (d == c)) → call_named v es steps d ≡ Some name →
      ((other : Name) → move_of other v s ≡ (if (v == v) && is_same_call name other then takes_it_away else leaves_it)) → (is_at_vat d es ≡ true) ⊎ (at_vat steps name v ≡ None) → Effect v es steps e s

-- ---- what messages say that aren't Calls

abbrev call_in : Message → Bool
call_in (message.Call c target interface method caps) = true
call_in m = false

read_call_in : (es : Past) (e : DecodedRecord) (m : Message) → call_in (read es e m) ≡ call_in m
read_call_in es e (message.Return c results caps) = at (is_late es e)
  where
    at : (b : Bool) → call_in (if b then message.Late c else message.Return c results caps) ≡ false
    at true = refl
    at false = refl
read_call_in es e (message.Resolve promise c) = at (resolves_released es e)
  where
    at : (b : Bool) → call_in (if b then message.Resolve cap.Nothing c else message.Resolve promise c) ≡ false
    at true = refl
    at false = refl
read_call_in es e (message.Broken promise) = at (resolves_released es e)
  where
    at : (b : Bool) → call_in (if b then message.Broken cap.Nothing else message.Broken promise) ≡ false
    at true = refl
    at false = refl
read_call_in es e m = refl

heard_late_call_in : (late : Bool) (said : Message) → call_in (heard_late late said) ≡ call_in said
heard_late_call_in true (message.Taken c by) = refl
heard_late_call_in true said = refl
heard_late_call_in false said = refl

heard_call_in : (es : Past) (e : DecodedRecord) (m said : Message) → call_in (heard es e m said) ≡ call_in said
heard_call_in es e (message.Late c) said = heard_late_call_in (is_late es e) said
heard_call_in es e m said = refl

-- what is read as a Call is one
read_call : (es : Past) (e : DecodedRecord) (m : Message) (c : Name) (target : Cap) (interface method : ℕ) (caps : List Cap) →
    read es e m ≡ message.Call c target interface method caps → m ≡ message.Call c target interface method caps
read_call es e (message.Call d to i n cs) c target interface method caps h = h
read_call es e m c target interface method caps h = absurd (let no : false ≡ true = sym (read_call_in es e m) ∙ ap call_in h in false≢true no)

send_stays : (v k : ℕ) (m : Message) → call_in m ≡ false → (name : Name) → move_of name v (step.Send v k m) ≡ leaves_it
send_stays v k (message.Call c target interface method caps) h name = absurd (false≢true (sym h))
send_stays v k m h name = refl

receive_stays : (v k : ℕ) (m : Message) (bound : List Cap) → call_in m ≡ false → (name : Name) → move_of name v (step.Receive v k m bound) ≡ leaves_it
receive_stays v k (message.Call c target interface method caps) bound h name = absurd (false≢true (sym h))
receive_stays v k m bound h name = refl

abbrev carries_call : RpcMessage → Bool
carries_call (Call head target params) = true
carries_call m = false

return_no_call : (late : Bool) (fields : List (List ℕ × ℕ)) (name : Name) (caps : Option (List Cap)) (m : Message) → say_return late fields name caps ≡ Some m → call_in m ≡ false
return_no_call true fields name caps m h = let same : message.Late name ≡ m = cc in ap call_in (sym same)
return_no_call false fields name (Some caps) m h = ap call_in (sym (mapped_is (λ caps. message.Return name (caps_at_paths caps fields) caps) (Some caps) m h).2)
return_no_call false fields name None m h = absurd (let no : ⊥ = cc in no)

taken_no_call : (late : Bool) (name : Name) (by : Option Name) (m : Message) → say_taken late name by ≡ Some m → call_in m ≡ false
taken_no_call true name by m h = let same : message.Late name ≡ m = cc in ap call_in (sym same)
taken_no_call false name by m h = ap call_in (sym (mapped_is (λ by. message.Taken name by) by m h).2)

resolve_no_call : (promise : Cap) (caps : List Cap) → call_in (say_resolve promise caps) ≡ false
resolve_no_call promise (cap.Nothing ∷ rest) = refl
resolve_no_call promise (c ∷ rest) = refl
resolve_no_call promise [] = refl

said_no_call : (names : Naming) (es : Past) (sent : Bool) (k c : ℕ) (rs : List ℕ) (m : RpcMessage) (sent_message : Message) → carries_call m ≡ false →
    message_of_record names es (Wire sent k c rs m) ≡ Some sent_message → call_in sent_message ≡ false
said_no_call names es sent k c rs (Bootstrap q) M isnt h = ap call_in (sym (mapped_is message.Boot (names.call c) M h).2)
said_no_call names es sent k c rs (Call head target params) M isnt h = absurd (false≢true (sym isnt))
said_no_call names es sent k c rs (Return head (Results payload)) M isnt h =
    let e = Wire sent k c rs (Return head (Results payload)) in
    let name = then_is (λ name. say_return (is_late es e) payload.fields name (caps_named names es e)) (call_answered names es k sent head.answer) M h in
    return_no_call (is_late es e) payload.fields name.0 (caps_named names es e) M name.2
said_no_call names es sent k c rs (Return head Exception) M isnt h = ap call_in (sym (mapped_is message.Failed (call_answered names es k sent head.answer) M h).2)
said_no_call names es sent k c rs (Return head Canceled) M isnt h = ap call_in (sym (mapped_is message.Failed (call_answered names es k sent head.answer) M h).2)
said_no_call names es sent k c rs (Return head Elsewhere) M isnt h = ap call_in (sym (mapped_is message.Elsewhere (call_answered names es k sent head.answer) M h).2)
said_no_call names es sent k c rs (Return head (TakeFrom n)) M isnt h =
    let late = sent && is_late es (Wire sent k c rs (Return head (TakeFrom n))) in
    let by = option_and_then names.call (call_of (id k sent n) es) in
    let name = then_is (λ name. say_taken late name by) (call_answered names es k sent head.answer) M h in
    taken_no_call late name.0 by M name.2
said_no_call names es sent k c rs (Resolve n resolution) M isnt h =
    let e = Wire sent k c rs (Resolve n resolution) in
    let promise = then_is (λ promise. option_map (say_resolve promise) (caps_named names es e)) (promise_named names es k sent n) M h in
    let caps = mapped_is (say_resolve promise.0) (caps_named names es e) M promise.2 in
    ap call_in (sym caps.2) ∙ resolve_no_call promise.0 caps.0
said_no_call names es sent k c rs (Finish q release) M isnt h = let same : message.Plain plain.Finish ≡ M = cc in ap call_in (sym same)
said_no_call names es sent k c rs (Release n count) M isnt h = let same : message.Plain plain.Release ≡ M = cc in ap call_in (sym same)
said_no_call names es sent k c rs (Disembargo n loopback target) M isnt h = let same : message.Plain plain.Disembargo ≡ M = cc in ap call_in (sym same)
said_no_call names es sent k c rs Abort M isnt h = let same : message.Plain plain.Abort ≡ M = cc in ap call_in (sym same)

-- the parts of a Call that is said
pub record IsCallSaid (interface method : ℕ) (name : Option Name) (target : Option Cap) (m : Message) : Type 0 where
  pub call : Name
  pub to : Cap
  pub caps : List Cap
  pub named : name ≡ Some call
  pub targeted : target ≡ Some to
  pub is : m ≡ message.Call call to interface method caps

call_said : (interface method : ℕ) (caps : Option (List Cap)) (name : Option Name) (target : Option Cap) (m : Message) → say_call interface method caps name target ≡ Some m →
    IsCallSaid interface method name target m
call_said interface method (Some caps) (Some c) (Some to) m h =
    let same : message.Call c to interface method caps ≡ m = cc in record { call = c; to = to; caps = caps; named = refl; targeted = refl; is = sym same }
call_said interface method None name target m h = absurd (let no : ⊥ = cc in no)
call_said interface method (Some caps) None target m h = absurd (let no : ⊥ = cc in no)
call_said interface method (Some caps) (Some name) None m h = absurd (let no : ⊥ = cc in no)

-- ---- each record with its step

module _ (v : ℕ) (es : Past) (steps earlier : List Step) (w : IsWithin v es steps earlier) where
  nowhere_yet : (name : Name) → list_any (begins_call name) earlier ≡ false → at_vat steps name v ≡ None
  nowhere_yet name h = at_own name v earlier steps w.own ∙ unbegun_nowhere earlier name v (place earlier name w.legal w.linked) h

  nowhere_more : (name : Name) → list_any (spends name) earlier ≡ true → at_vat steps name v ≡ None
  nowhere_more name h = at_own name v earlier steps w.own ∙ spent_nowhere earlier name v (place earlier name w.legal w.linked) h

  make_effect : (d r interface method : ℕ) (s : Step) → IsLegal earlier s → Says v es steps (Make d r interface method) s → Effect v es steps (Make d r interface method) s
  make_effect d r interface method s legal says =
      let e = Make d r interface method in
      let to = mapped_is (λ to. step.Make v d to r interface method) (reference_named (naming v (e ∷ es) (s ∷ steps)) es r) s says in
      let new = (subst (IsLegal earlier) (sym to.2) legal).1 in
      comes d (call v d) (record { goal = view_of_reference es r; interface = interface; method = method }) (asked_by_parts to.0 interface method) (λ c. refl)
      (ap (λ b. option_or (if b then Some (call v d) else None) (call_named v es steps d)) (eq-eqb d d refl)) (λ other. ap (move_of other v) (sym to.2)) (nowhere_yet (call v d) new) (to.1, refl, refl)

  deliver_effect : (d object : ℕ) (s : Step) → is_at_vat d es ≡ true → Says v es steps (Deliver d object) s → Effect v es steps (Deliver d object) s
  deliver_effect d object s here says =
      let name = mapped_is (λ name. step.Deliver v name object) (call_named v es steps d) s says in
      goes d name.0 (λ c. refl) (λ c. refl) name.1 (λ other. ap (move_of other v) (sym name.2)) (inl here)

  fault_effect : (d : ℕ) (s : Step) → (is_at_vat d es || is_served d es) ≡ true → Says v es steps (Fault d) s → Effect v es steps (Fault d) s
  fault_effect d s there says =
      let name = mapped_is (λ name. step.Fault v name) (call_named v es steps d) s says in
      goes d name.0 (λ c. refl) (λ c. refl) name.1 (λ other. ap (move_of other v) (sym name.2)) (elim (or_either (is_at_vat d es) (is_served d es) there) [
        | inl here ↦ inl here
        | inr served ↦
            let a = served_arrived v es steps earlier w d served in
            inr (subst (λ n. at_vat steps n v ≡ None) (one_answer a.0 name.0 (call_named v es steps d) a.1 name.1) (nowhere_more a.0 (arrived_spent earlier w.linked a.0 v a.2)))
      ])

  call_sent_effect : (k d : ℕ) (rs : List ℕ) (head : CallHead) (target : Target) (params : Payload) (s : Step) → is_at_vat d es ≡ true →
      Says v es steps (Wire true k d rs (Call head target params)) s → Effect v es steps (Wire true k d rs (Call head target params)) s
  call_sent_effect k d rs head target params s here says =
      let e = Wire true k d rs (Call head target params) in
      let names = naming v (e ∷ es) (s ∷ steps) in
      let sent = mapped_is (λ m. step.Send v k m) (message_of_record names es e) s says in
      let call_is = call_said head.interface head.method (caps_named names es e) (names.call d) (option_and_then names.cap (view_of_target es e)) sent.0 sent.1 in
      let is : s ≡ step.Send v k (message.Call call_is.call call_is.to head.interface head.method call_is.caps) = sym sent.2 ∙ ap (λ m. step.Send v k m) call_is.is in
      goes d call_is.call (λ c. refl) (λ c. refl) call_is.named (λ other. ap (move_of other v) is) (inl here)

  call_received_effect : (k d : ℕ) (rs : List ℕ) (head : CallHead) (target : Target) (params : Payload) (s : Step) → IsLinked earlier s →
      Says v es steps (Wire false k d rs (Call head target params)) s → Effect v es steps (Wire false k d rs (Call head target params)) s
  call_received_effect k d rs head target params s linked says =
      let e = Wire false k d rs (Call head target params) in
      let names = naming v (e ∷ es) (s ∷ steps) in
      let goal = view_of_target es e in
      let call_is = call_said head.interface head.method (caps_named names es e) (names.call d) (option_and_then names.cap goal) (read es e says.message) (says_read says refl) in
      let was = read_call es e says.message call_is.call call_is.to head.interface head.method call_is.caps call_is.is in
      let is : s ≡ step.Receive v k (message.Call call_is.call call_is.to head.interface head.method call_is.caps) says.bound = says.step ∙ ap (λ m. step.Receive v k m says.bound) was in
      let nowhere = at_no_vat earlier w.legal w.linked call_is.call v k v call_is.to head.interface head.method call_is.caps says.bound (subst (IsLinked earlier) is linked) in
      comes d call_is.call (record { goal = goal; interface = head.interface; method = head.method }) (asked_by_parts call_is.to head.interface head.method) (λ c. refl)
      call_is.named (λ other. ap (move_of other v) is) (at_own call_is.call v earlier steps w.own ∙ nowhere) (call_is.targeted, refl, refl)

  sent_effect : (k d : ℕ) (rs : List ℕ) (m : RpcMessage) (s : Step) → carries_call m ≡ false → Says v es steps (Wire true k d rs m) s → Effect v es steps (Wire true k d rs m) s
  sent_effect k d rs m s isnt says =
      let e = Wire true k d rs m in
      let names = naming v (e ∷ es) (s ∷ steps) in
      let sent = mapped_is (λ m. step.Send v k m) (message_of_record names es e) s says in
      quiet (λ c. refl) (λ name. ap (move_of name v) (sym sent.2) ∙ send_stays v k sent.0 (said_no_call names es true k d rs m sent.0 isnt sent.1) name)

  received_effect : (k d : ℕ) (rs : List ℕ) (m : RpcMessage) (s : Step) → carries_call m ≡ false → ((c : ℕ) → brings c es (Wire false k d rs m) ≡ None) →
      Says v es steps (Wire false k d rs m) s → Effect v es steps (Wire false k d rs m) s
  received_effect k d rs m s isnt none says =
      let e = Wire false k d rs m in
      let names = naming v (e ∷ es) (s ∷ steps) in
      let said = says_heard says in
      let still = sym (read_call_in es e says.message) ∙ ap call_in (sym said.2) ∙ heard_call_in es e says.message said.0 ∙ said_no_call names es false k d rs m said.0 isnt said.1 in
      quiet none (λ name. ap (move_of name v) says.step ∙ receive_stays v k says.message says.bound still name)

  effect : (e : DecodedRecord) (s : Step) → IsLegal earlier s → IsLinked earlier s → IsGood es e → Says v es steps e s → Effect v es steps e s
  effect (Host r object) s legal linked good says =
      let is : step.Host v object ≡ s = let h : ◌≡◌ {A = Option Step} (Some (step.Host v object)) (Some s) = says in cc in quiet (λ c. refl) (λ name. ap (move_of name v) (sym is))
  effect (Vow r) s legal linked good says =
      let is : step.Vow v r ≡ s = let h : ◌≡◌ {A = Option Step} (Some (step.Vow v r)) (Some s) = says in cc in quiet (λ c. refl) (λ name. ap (move_of name v) (sym is))
  effect (Fulfil r to) s legal linked good says =
      let names = naming v (Fulfil r to ∷ es) (s ∷ steps) in
      let p = then_is (λ p. option_map (λ c. step.Fulfil v p c) (reference_named names es to)) (promise_in (view_of_reference es r)) s says in
      let c = mapped_is (λ c. step.Fulfil v p.0 c) (reference_named names es to) s p.2 in
      quiet (λ c. refl) (λ name. ap (move_of name v) (sym c.2))
  effect (Break r) s legal linked good says =
      let p = mapped_is (λ p. step.Break v p) (promise_in (view_of_reference es r)) s says in
      quiet (λ c. refl) (λ name. ap (move_of name v) (sym p.2))
  effect (Make d r interface method) s legal linked good says = make_effect d r interface method s legal says
  effect (Field r d path) s legal linked good says =
      let c = mapped_is (λ name. step.Name v (cap.Field name path)) (call_named v es steps d) s says in
      quiet (λ c. refl) (λ name. ap (move_of name v) (sym c.2))
  effect (Deliver d object) s legal linked good says = deliver_effect d object s (good rule.Here) says
  effect (Answer d results) s legal linked good says =
      let names = naming v (Answer d results ∷ es) (s ∷ steps) in
      let name = then_is (λ name. option_map (λ caps. step.Answer v name caps) (all_there (map (result_named names es) results))) (call_named v es steps d) s says in
      let caps = mapped_is (λ caps. step.Answer v name.0 caps) (all_there (map (result_named names es) results)) s name.2 in
      quiet (λ c. refl) (λ name. ap (move_of name v) (sym caps.2))
  effect (AnswerBy d by) s legal linked good says =
      let name = then_is (λ name. option_map (λ other. step.AnswerBy v name other) (call_named v es steps by)) (call_named v es steps d) s says in
      let other = mapped_is (λ other. step.AnswerBy v name.0 other) (call_named v es steps by) s name.2 in
      quiet (λ c. refl) (λ name. ap (move_of name v) (sym other.2))
  effect (Fault d) s legal linked good says = fault_effect d s (and_parts (is_at_vat d es || is_served d es) (not (is_settled d es)) (good rule.Answer)).0 says
  effect (Wire true k d rs (Call head target params)) s legal linked good says = call_sent_effect k d rs head target params s (good rule.Here) says
  effect (Wire true k d rs m) s legal linked good says = sent_effect k d rs m s refl says
  effect (Wire false k d rs (Call head target params)) s legal linked good says = call_received_effect k d rs head target params s linked says
  effect (Wire false k d rs m) s legal linked good says = received_effect k d rs m s refl (λ c. refl) says

-- ---- one record more

-- each call that the log has at its vat is there by the vat's steps, and no two of them have one name
record ArePlaced (v : ℕ) (es : Past) (steps : List Step) : Type 0 where
  there : (c : ℕ) → is_at_vat c es ≡ true → IsThere v es steps steps c
  alone : (c d : ℕ) (name : Name) → is_at_vat c es ≡ true → is_at_vat d es ≡ true → call_named v es steps c ≡ Some name → call_named v es steps d ≡ Some name → c ≡ d

was_here : (c : ℕ) (es : Past) (e : DecodedRecord) → brings c es e ≡ None → is_at_vat c (e ∷ es) ≡ true → (takes c es e ≡ false) × (is_at_vat c es ≡ true)
was_here c es e none h = at (takes c es e) refl (sym (ap (λ o. unwrap_or (option_or (if is_some o then Some true else if takes c es e then Some false else None) (last_answer (log_moves c) es)) false) none) ∙ h)
  where
    at : (b : Bool) → takes c es e ≡ b → unwrap_or (option_or (if b then Some false else None) (last_answer (log_moves c) es)) false ≡ true → (takes c es e ≡ false) × (is_at_vat c es ≡ true)
    at true taken h = absurd (false≢true h)
    at false left h = (left, h)

module _ (v : ℕ) (es : Past) (steps : List Step) (e : DecodedRecord) (s : Step) (refers : Refers es e) (placed : ArePlaced v es steps) where
  asks_still : (here : Asked) (o : Option AskedOf) → IsSomeAnd o (AsksFor (cap_named v es steps) here) → IsSomeAnd o (AsksFor (cap_named v (e ∷ es) (s ∷ steps)) here)
  asks_still here None f = absurd f
  asks_still here (Some a) f =
      let view = then_is (cap_named v es steps) a.goal here.goal f.0 in
      (ap (λ o. option_and_then (cap_named v (e ∷ es) (s ∷ steps)) o) view.1 ∙ cap_keeps v (e ∷ []) es (s ∷ []) steps refl (refers, tt) view.0 here.goal view.2, f.1, f.2)

  stays : (c : ℕ) (t : IsThere v es steps steps c) → brings c es e ≡ None → move_of t.name v s ≡ leaves_it → IsThere v (e ∷ es) (s ∷ steps) (s ∷ steps) c
  stays c t unbrought unmoved = record {
    name = t.name;
    here = t.here;
    named = call_grows v es steps e s c t.name refers t.named;
    there = ap (λ m. asked_after m (at_vat steps t.name v)) unmoved ∙ t.there;
    asks =
        subst (λ o. IsSomeAnd o (AsksFor (cap_named v (e ∷ es) (s ∷ steps)) t.here)) (sym (ap (λ o. option_or o (request_of c es)) unbrought))
        (asks_still t.here (request_of c es) t.asks);
  }

  old_name : (c : ℕ) (name : Name) → is_at_vat c es ≡ true → call_named v (e ∷ es) (s ∷ steps) c ≡ Some name → call_named v es steps c ≡ Some name
  old_name c name here named = let t = placed.there c here in t.named ∙ sym (call_grows v es steps e s c t.name refers t.named) ∙ named

  both_old : (c d : ℕ) (name : Name) → is_at_vat c es ≡ true → is_at_vat d es ≡ true → call_named v (e ∷ es) (s ∷ steps) c ≡ Some name →
      call_named v (e ∷ es) (s ∷ steps) d ≡ Some name → c ≡ d
  both_old c d name there also named again = placed.alone c d name there also (old_name c name there named) (old_name d name also again)

  not_nowhere : (c : ℕ) (name : Name) (t : IsThere v es steps steps c) → at_vat steps name v ≡ None → name ≡ t.name → ⊥
  not_nowhere c name t none same = let no : ◌≡◌ {A = Option Asked} None (Some t.here) = sym none ∙ ap (λ n. at_vat steps n v) same ∙ t.there in cc

  differs : (c : ℕ) (name : Name) (t : IsThere v es steps steps c) → at_vat steps name v ≡ None → is_same_call name t.name ≡ false
  differs c name t none = false_from_ne_true (is_same_call name t.name) (λ same. not_nowhere c name t none (names_same name t.name same))

  other_call : (b : Bool) (m : Move) → b ≡ false → (if (v == v) && b then m else leaves_it) ≡ leaves_it
  other_call b m apart = ap (λ t. if t then m else leaves_it) (and_right (v == v) b apart)

  -- a call that comes
  module _ (d : ℕ) (name : Name) (a : AskedOf) (here : Asked) (brought : (c : ℕ) → brings c es e ≡ (if d == c then Some a else None)) (named : call_named v (e ∷ es) (s ∷ steps) d ≡ Some name)
      (moved : (other : Name) → move_of other v s ≡ (if (v == v) && is_same_call name other then brings_it here else leaves_it)) (none : at_vat steps name v ≡ None)
      (for : AsksFor (cap_named v (e ∷ es) (s ∷ steps)) here a) where
    come : IsThere v (e ∷ es) (s ∷ steps) (s ∷ steps) d
    come = record {
      name = name;
      here = here;
      named = named;
      there = ap (λ m. asked_after m (at_vat steps name v)) (moved name ∙ this_call v (is_same_call name name) (brings_it here) (same_to_itself name));
      asks =
          subst (λ o. IsSomeAnd o (AsksFor (cap_named v (e ∷ es) (s ∷ steps)) here))
          (sym (ap (λ o. option_or o (request_of d es)) (brought d ∙ ap (λ b. if b then Some a else None) (eq-eqb d d refl)))) for;
    }

    not_brought : (c : ℕ) → (d == c) ≡ false → brings c es e ≡ None
    not_brought c apart = brought c ∙ ap (λ b. if b then Some a else None) apart

    old : (c : ℕ) → (d == c) ≡ false → is_at_vat c (e ∷ es) ≡ true → is_at_vat c es ≡ true
    old c apart h = (was_here c es e (not_brought c apart) h).1

    come_there : (c : ℕ) → is_at_vat c (e ∷ es) ≡ true → IsThere v (e ∷ es) (s ∷ steps) (s ∷ steps) c
    come_there c h = elim (cases_Bool (d == c)) [
      | inl same ↦ subst (IsThere v (e ∷ es) (s ∷ steps) (s ∷ steps)) (eqb-true d c same) come
      | inr apart ↦
          let t = placed.there c (old c apart h) in
          stays c t (not_brought c apart) (moved t.name ∙ other_call (is_same_call name t.name) (brings_it here) (differs c name t none))
    ]

    not_again : (c : ℕ) (x : Name) → (d == c) ≡ false → is_at_vat c (e ∷ es) ≡ true → call_named v (e ∷ es) (s ∷ steps) c ≡ Some x → call_named v (e ∷ es) (s ∷ steps) d ≡ Some x → ⊥
    not_again c x apart h theirs own =
        let t = placed.there c (old c apart h) in
        not_nowhere c name t none (one_answer name x (call_named v (e ∷ es) (s ∷ steps) d) named own ∙ one_answer x t.name (call_named v es steps c) (old_name c x (old c apart h) theirs) t.named)

    come_alone : (b c : ℕ) (x : Name) → is_at_vat b (e ∷ es) ≡ true → is_at_vat c (e ∷ es) ≡ true → call_named v (e ∷ es) (s ∷ steps) b ≡ Some x →
        call_named v (e ∷ es) (s ∷ steps) c ≡ Some x → b ≡ c
    come_alone b c x there also named_b named_c = elim (cases_Bool (d == b)) [
      | inl first ↦ elim (cases_Bool (d == c)) [
        | inl second ↦ sym (eqb-true d b first) ∙ eqb-true d c second
        | inr apart ↦ absurd (not_again c x apart also named_c (ap (call_named v (e ∷ es) (s ∷ steps)) (eqb-true d b first) ∙ named_b))
      ]
      | inr apart ↦ elim (cases_Bool (d == c)) [
        | inl second ↦ absurd (not_again b x apart there named_b (ap (call_named v (e ∷ es) (s ∷ steps)) (eqb-true d c second) ∙ named_c))
        | inr beside ↦ both_old b c x (old b apart there) (old c beside also) named_b named_c
      ]
    ]

  -- nothing comes
  unbrought_alone : ((c : ℕ) → brings c es e ≡ None) → (b c : ℕ) (x : Name) → is_at_vat b (e ∷ es) ≡ true → is_at_vat c (e ∷ es) ≡ true → call_named v (e ∷ es) (s ∷ steps) b ≡ Some x →
      call_named v (e ∷ es) (s ∷ steps) c ≡ Some x → b ≡ c
  unbrought_alone none b c x there also = both_old b c x (was_here b es e (none b) there).1 (was_here c es e (none c) also).1

  gone_differs : (d c : ℕ) (name : Name) (t : IsThere v es steps steps c) → (d == c) ≡ false → is_at_vat c es ≡ true → call_named v es steps d ≡ Some name →
      (is_at_vat d es ≡ true) ⊎ (at_vat steps name v ≡ None) →
      is_same_call name t.name ≡ false
  gone_differs d c name t apart here named (inr none) = differs c name t none
  gone_differs d c name t apart here named (inl there) =
      false_from_ne_true (is_same_call name t.name) (λ same. clash (eq-eqb d c (placed.alone d c t.name there here (named ∙ ap (λ n. Some n) (names_same name t.name same)) t.named)) apart)

  placed_next : Effect v es steps e s → ArePlaced v (e ∷ es) (s ∷ steps)
  placed_next (quiet unbrought unmoved) = record {
    there = λ c h. let t = placed.there c (was_here c es e (unbrought c) h).1 in stays c t (unbrought c) (unmoved t.name);
    alone = unbrought_alone unbrought;
  }
  placed_next (comes d name a here brought named moved none for) = record {
    there = come_there d name a here brought named moved none for;
    alone = come_alone d name a here brought named moved none for;
  }
  placed_next (goes d name unbrought taken named moved gone) = record {
    there = λ c h.
        let was = was_here c es e (unbrought c) h in
        let t = placed.there c was.1 in
        stays c t (unbrought c) (moved t.name ∙ other_call (is_same_call name t.name) takes_it_away (gone_differs d c name t (sym (taken c) ∙ was.0) was.1 named gone));
    alone = unbrought_alone unbrought;
  }

are_placed : (v : ℕ) (es : Past) (steps before : List Step) → IsWithin v es steps before → Each IsGood es → ArePlaced v es steps
are_placed v [] steps before w good = record {
  there = λ c h. absurd (false≢true h);
  alone = λ c d name h. absurd (false≢true h);
}
are_placed v (e ∷ es) [] before w good = absurd w.paired
are_placed v (e ∷ es) (s ∷ steps) before w good =
    let back = step_back v e es s steps before w in
    let t = back.within in
    placed_next v es steps e s w.refers.0 (are_placed v es steps back.earlier t good.1) (effect v es steps back.earlier t e s back.legal back.linked good.0 w.paired.0)

-- ---- together

pub is_there : (v : ℕ) (es : Past) (steps before : List Step) → IsWithin v es steps before → Each IsGood es → (c : ℕ) → is_at_vat c es ≡ true → IsThere v es steps before c
is_there v es steps before w good c h =
    let t = (are_placed v es steps before w good).there c h in
    record { name = t.name; here = t.here; named = t.named; there = sym (at_own t.name v before steps w.own) ∙ t.there; asks = t.asks }

-- so in the run its name is at the vat
pub is_here : (v : ℕ) (es : Past) (steps before : List Step) → IsWithin v es steps before → Each IsGood es → (c : ℕ) → is_at_vat c es ≡ true → (name : Name) →
    call_named v es steps c ≡ Some name → IsSome (at_vat before name v)
is_here v es steps before w good c h name named =
    let t = is_there v es steps before w good c h in
    subst (λ n. IsSome (at_vat before n v)) (one_answer t.name name (call_named v es steps c) t.named named) (subst IsSome (sym t.there) refl)

-- ---- where a call goes

-- a view that leads to another is one with it
led_one : (es : Past) (from to : Option View) → LeadsTo es from to → AreOneThere es from to
led_one es None to led = absurd led
led_one es (Some a) None led = absurd led
led_one es (Some a) (Some b) led = (b, led, stay)

-- where a call's goal and a view are so related in the log, so are their names in the run
goal_so : (names : View → Option Cap) (S : Option View → Option View → Type 0) (R : Cap → Cap → Type 0) → NamesFollow names S R → (here : Asked) (o : Option AskedOf) (to : Option View) (y : Cap) →
    IsSomeAnd o (AsksFor names here) → option_and_then names to ≡ Some y → S (option_and_then (λ a. a.goal) o) to → R here.goal y
goal_so names S R follow here None to y said to_named so = absurd said
goal_so names S R follow here (Some a) to y said to_named so = follow a.goal to here.goal y said.0 to_named so

pub delivery_may_come : (v : ℕ) (es : Past) (steps before : List Step) (c object : ℕ) (s : Step) → IsWithin v es steps before → Each IsGood es → IsGood es (Deliver c object) →
    Says v es steps (Deliver c object) s → MayCome before s
delivery_may_come v es steps before c object s w goods good says =
    let name = mapped_is (λ name. step.Deliver v name object) (call_named v es steps c) s says in
    let t = is_there v es steps before w goods c (good rule.Here) in
    let one = led_one es (goal_of c es) (Some (Object object)) (good rule.Goal) in
    let meets = goal_so (cap_named v es steps) (AreOneThere es) (Meets before) (ones_meet_there v es steps before w) t.here (request_of c es) (Some (Object object)) (cap.Object v object) t.asks refl one in
    let leads = meets_object before t.here.goal v object meets in
    subst (MayCome before) name.2
    (subst (λ n. IsSomeAnd (at_vat before n v) (λ asked. RunLeads before asked.goal (cap.Object v object))) (one_answer t.name name.0 (call_named v es steps c) t.named name.1)
    (subst (λ o. IsSomeAnd o (λ asked. RunLeads before asked.goal (cap.Object v object))) (sym t.there) leads))

-- what GOAL says of a Call that is sent, where it asks for this: its goal and the target are so related
abbrev pub GoesSo : (Option View → Option View → Type 0) → Option View → ℕ → ℕ → Option AskedOf → Type 0
GoesSo S to interface method o = IsSomeAnd o (λ a. S a.goal to × (interface ≡ a.interface) × (method ≡ a.method))

goes_by : (names : View → Option Cap) (S : Option View → Option View → Type 0) (here : Asked) (interface method : ℕ) (to : Option View) (o : Option AskedOf) → IsSomeAnd o (AsksFor names here) →
    GoesSo S to interface method o → S (option_and_then (λ a. a.goal) o) to × (interface ≡ here.interface) × (method ≡ here.method)
goes_by names S here interface method to None said goal = absurd said
goes_by names S here interface method to (Some a) said goal = (goal.0, goal.1 ∙ sym said.1, goal.2 ∙ sym said.2)

-- a message is a Call of a call that is at the vat, whose goal there and the target are so related, and interface and method are
-- the call's
pub record IsSentOn (v interface method : ℕ) (R : Cap → Cap → Type 0) (before : List Step) (m : Message) : Type 0 where
  pub call : Name
  pub to : Cap
  pub caps : List Cap
  pub is : message.Call call to interface method caps ≡ m
  pub goal : IsSomeAnd (at_vat before call v) (λ asked. R asked.goal to × (interface ≡ asked.interface) × (method ≡ asked.method))

-- as the goal and the target of a Call that is sent are related in the log, so they are in the run
pub call_sent_on : (v : ℕ) (es : Past) (steps before : List Step) → IsWithin v es steps before → Each IsGood es → (S : Option View → Option View → Type 0) (R : Cap → Cap → Type 0) → NamesFollow (cap_named v es steps) S R →
    (k c : ℕ) (rs : List ℕ) (head : CallHead) (target : Target) (params : Payload) (s : Step) → IsGood es (Wire true k c rs (Call head target params)) →
    GoesSo S (view_of_target es (Wire true k c rs (Call head target params))) head.interface head.method (request_of c es) → (M : Message) →
    message_of_record (naming v (Wire true k c rs (Call head target params) ∷ es) (s ∷ steps)) es (Wire true k c rs (Call head target params)) ≡ Some M → IsSentOn v head.interface head.method R before M
call_sent_on v es steps before w goods S R follow k c rs head target params s good asks M said =
    let e = Wire true k c rs (Call head target params) in
    let names = naming v (e ∷ es) (s ∷ steps) in
    let m = call_said head.interface head.method (caps_named names es e) (names.call c) (option_and_then names.cap (view_of_target es e)) M said in
    let t = is_there v es steps before w goods c (good rule.Here) in
    let goal = goes_by (cap_named v es steps) S t.here head.interface head.method (view_of_target es e) (request_of c es) t.asks asks in
    let known = target_known es k c rs head target params (all_sound (e ∷ es) (good, goods)) in
    let targeted = known_named v es steps before w e s (good rule.Ref) (view_of_target es e) known m.to m.targeted in
    let so = goal_so (cap_named v es steps) S R follow t.here (request_of c es) (view_of_target es e) m.to t.asks targeted goal.0 in
    let P : Asked → Type 0 = λ asked. R asked.goal m.to × (head.interface ≡ asked.interface) × (head.method ≡ asked.method) in
    record {
      call = m.call;
      to = m.to;
      caps = m.caps;
      is = sym m.is;
      goal = subst (λ n. IsSomeAnd (at_vat before n v) P) (one_answer t.name m.call (call_named v es steps c) t.named m.named) (subst (λ o. IsSomeAnd o P) (sym t.there) (so, goal.1, goal.2));
    }

pub sent_call_may_come : (v : ℕ) (es : Past) (steps before : List Step) (k c : ℕ) (rs : List ℕ) (head : CallHead) (target : Target) (params : Payload) (s : Step) →
    IsWithin v es steps before → Each IsGood es → IsGood es (Wire true k c rs (Call head target params)) → Says v es steps (Wire true k c rs (Call head target params)) s → MayCome before s
sent_call_may_come v es steps before k c rs head target params s w goods good says =
    let e = Wire true k c rs (Call head target params) in
    let sent = mapped_is (λ m. step.Send v k m) (message_of_record (naming v (e ∷ es) (s ∷ steps)) es e) s says in
    let m = call_sent_on v es steps before w goods (AreOneThere es) (Meets before) (ones_meet_there v es steps before w) k c rs head target params s good (good rule.Goal) sent.0 sent.1 in
    subst (MayCome before) sent.2 (subst (MaySend before v) m.is m.goal)
