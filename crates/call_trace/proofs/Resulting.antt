-- A sent Return with results comes after its call was answered or passed back, and its results became in the run what it gives,
-- as a promise became what its Resolve says.
use Rattle.std.proofs.Common.{◌≡◌, ◌⊎◌, inl, inr, refl, sym, ◌∙◌, ap, ap₂, subst, ℕ, zero, suc, ◌==◌, List, [], ◌∷◌, ◌++◌, Bool, true, false, not, ◌&&◌, ◌||◌, Option, Some, None, if◌then◌else◌, option_and_then, option_map, slice_get, eqb-true}
use Rattle.std.specs.Prelude.{map, IsSomeAnd, is_some}
use Rattle.std.specs.List.{AllByRecursion, cons_option, list_any}
use Rattle.std.specs.Option.{option_or}
use Rattle.std.proofs.lemmas.Bool.{and_from, and_parts, or_left, or_right, cases_Bool, false≢true, not-true, eq-eqb}
use Rattle.agree.proofs.Good.{all_sound}
use Rattle.decoded_records.specs.Past.{Past, point, Each, id, is, last_answer, last_where}
use Rattle.decoded_records.specs.Questions.{is_late, is_over, call_at, call_of, opening}
use Rattle.decoded_records.specs.Lives.{descriptors}
use Rattle.decoded_records.specs.Views.{view_of_number, view_of_reference, view_of_descriptor, descriptor_view}
use Rattle.decoded_records.specs.Calls.{knows, has_passed, is_known, call_taken_from, answerer, answered_by}
use Rattle.decoded_records.specs.Bindings.{Refers}
use Rattle.vat_view.specs.Walks.{turned, onward}
use Rattle.vat_view.specs.Walks.{here as stay}
use Rattle.vat_rules.specs.Judged.{IsGood}
use Rattle.vat_rules.specs.OfCaps.{is_cap_at, is_own_number}
use Rattle.vat_rules.specs.OfPromises.{ResolvesTo}
use Rattle.vat_rules.specs.OfResults.{ReturnsField, ReturnsFields, ReturnsTaken}
use Rattle.vat_rules.specs.Types.{Later}
use Rattle.vat_rules.specs.Ways.{LeadsOnTo, BecameThere, WentOn}
use Rattle.vat_rules.specs.declared.rule.Rule.TheVariants as rule
use Rattle.rpc_view.specs.declared.message.Payload.{Payload}
use Rattle.call_trace.specs.Types.{Descriptor, NoCap, Outcome, Results, Exception, Canceled, Elsewhere, TakeFrom, Resolution, RpcMessage, Return, ReturnHead, Resolve, DecodedRecord, Answer, AnswerBy, Wire, View, FieldOf, Name, Cap, Message, Step}
use Rattle.call_trace.specs.Naming.{Naming, naming, cap_at, call_named, cap_named}
use Rattle.call_trace.specs.Said.{all_there, say_return, say_taken, say_resolve, descriptor_named, caps_named, promise_named, call_answered, caps_at_paths, message_of_record}
use Rattle.call_trace.specs.Part.{result_named, Says, PairsOff}
use Rattle.call_trace.specs.Within.{IsWithin}
use Rattle.call_trace.proofs.Asking.{call_in_use}
use Rattle.call_trace.proofs.SendingOn.{IsHeard, sent_on}
use Rattle.call_trace.proofs.AsSent.{read, heard, says_read, says_heard, taken_heard, taken_parts}
use Rattle.call_trace.proofs.Naming.{then_is, mapped_is, call_keeps}
use Rattle.call_trace.proofs.Carried.{paired_at, each_after}
use Rattle.call_trace.proofs.Tells.{read_return, return_said, call_is, in_time}
use Rattle.call_trace.proofs.Within.{NamesFollow, StandsIn, stands_in, each_earlier, became_there}
use Rattle.call_trace.proofs.Using.{number_known, described_known, known_named}
use Rattle.call_trace.proofs.Sayable.{cap_at_is, unresolved_lives}
use Rattle.run_model.specs.Legal.{is_present, answers_call, hands, sends_on, passes_back, is_passed_back, Became, IsLegal, MayCome, MaySend}
use Rattle.run_model.specs.Links.{IsLinked}
use Rattle.run_model.specs.Steps.{is_same_call, vat_of}
use Rattle.run_model.specs.Steps.{EachStep}
use Rattle.run_model.proofs.Once.{names_same, or_either, some_of}
use Rattle.run_model.proofs.Growing.{passes_later}
use Rattle.run_model.proofs.Sending.{either_later, received_answered, received_taken}
use Rattle.run_model.specs.declared.cap.Cap.TheVariants as cap
use Rattle.run_model.specs.declared.message.Message.TheVariants as message
use Rattle.run_model.specs.declared.step.Step.TheVariants as step

some_same : {A : Type 0} {x y : A} → Some x ≡ Some y → x ≡ y
some_same e = cc

none_some : {A : Type 0} {x : A} → None ≡ Some x → ⊥
none_some e = cc

there : {A : Type 0} (o : Option A) → is_some o ≡ true → (x : A) × (o ≡ Some x)
there (Some x) h = (x, refl)
there None h = absurd (false≢true h)

-- ---- a call whose results are known was answered

-- a record of the log passes the test
abbrev Passed : (Past → DecodedRecord → Bool) → Past → Type 0
Passed test past = (later : List DecodedRecord) × (e : DecodedRecord) × (before : Past) × (past ≡ later ++ e ∷ before) × (test before e ≡ true)

passed_at : (test : Past → DecodedRecord → Bool) (past : Past) → has_passed test past ≡ true → Passed test past
passed_at test [] h = absurd (false≢true h)
passed_at test (e ∷ before) h = elim (cases_Bool (test before e)) [
  | inl here ↦ ([], e, before, refl, here)
  | inr other ↦
      let r = passed_at test before (sym (ap (λ b. is_some (if b then Some (point before e) else last_where test before)) other) ∙ h) in (e ∷ r.0, r.1, r.2, ap (λ l. e ∷ l) r.3, r.4)
]

-- a step receives a Return of a call that takes the results of another, or of the same
abbrev ReceivesTaken : Name → Name → Step → Type 0
ReceivesTaken name other s = (v : ℕ) × (k : ℕ) × (bound : List Cap) × (s ≡ step.Receive v k (message.Taken name other) bound)

-- a step answers a call by another, or receives a Return that takes the results of that one
abbrev TellsTaken : Name → Name → Step → Type 0
TellsTaken name other s = (hands name other s ≡ true) ⊎ ReceivesTaken name other s

-- a step answers a call of this name, or receives its results, or that it is answered by another
abbrev TellsResults : Name → Step → Type 0
TellsResults name s = (answers_call name s ≡ true) ⊎ ((other : Name) × TellsTaken name other s) ⊎ ((v : ℕ) × (k : ℕ) × (results : List (List ℕ × Cap)) × (caps bound : List Cap) × (s ≡ step.Receive v k (message.Return name results caps) bound))

own_same : (name : Name) → is_same_call name name ≡ true
own_same name = ap₂ (λ a b. a && b) (eq-eqb name.maker name.maker refl) (eq-eqb name.number name.number refl)

answer_told : (v : ℕ) (es : Past) (steps : List Step) (c : ℕ) (results : List (ℕ × List ℕ)) (s : Step) → Says v es steps (Answer c results) s →
    (name : Name) × (call_named v (Answer c results ∷ es) (s ∷ steps) c ≡ Some name) × TellsResults name s
answer_told v es steps c results s says =
    let names = naming v (Answer c results ∷ es) (s ∷ steps) in
    let name = then_is (λ name. option_map (λ caps. step.Answer v name caps) (all_there (map (result_named names es) results))) (names.call c) s says in
    let caps = mapped_is (λ caps. step.Answer v name.0 caps) (all_there (map (result_named names es) results)) s name.2 in
    (name.0, name.1, inl (ap (answers_call name.0) (sym caps.2) ∙ own_same name.0))

results_told : (v call : ℕ) (es : Past) (steps : List Step) (k c : ℕ) (rs : List ℕ) (head : ReturnHead) (payload : Payload) (s : Step) → Says v es steps (Wire false k c rs (Return head (Results payload))) s →
    is call (call_at (opening (id k true head.answer) es)) ≡ true → is_late es (Wire false k c rs (Return head (Results payload))) ≡ false →
    (name : Name) × (call_named v (Wire false k c rs (Return head (Results payload)) ∷ es) (s ∷ steps) call ≡ Some name) × TellsResults name s
results_told v call es steps k c rs head payload s says own late =
    let e = Wire false k c rs (Return head (Results payload)) in
    let names = naming v (e ∷ es) (s ∷ steps) in
    let caps = caps_named names es e in
    let name = then_is (λ name. say_return (is_late es e) payload.fields name caps) (call_answered names es k false head.answer) (read es e says.message) (says_read says refl) in
    let asked = then_is names.call (call_of (id k true head.answer) es) name.0 name.1 in
    let same = call_is (is_over (id k true head.answer) es) (call_at (opening (id k true head.answer) es)) call asked.0 own asked.1 in
    let told = return_said (is_late es e) payload.fields name.0 caps (read es e says.message) late name.2 in
    let came = read_return es e says.message name.0 (caps_at_paths told.0 payload.fields) told.0 told.2 in
    (name.0, ap names.call (sym same) ∙ asked.2, inr (inr (v, k, caps_at_paths told.0 payload.fields, told.0, says.bound, says.step ∙ ap (λ m. step.Receive v k m says.bound) came)))

-- a question asked of this vat stands for this call
abbrev IsAsked : Past → ℕ → Type 0
IsAsked es by = (k : ℕ) × (n : ℕ) × (call_at (opening (id k false n) es) ≡ Some by)

-- the two calls have names, and the step tells that the first is answered by the second, or is passed back; where it is told
-- by a Return, the second was asked of this vat
abbrev AreTakenNames : ℕ → Past → List Step → ℕ → ℕ → Step → Type 0
AreTakenNames v es steps call by s =
    (name : Name) × (other : Name) × (call_named v es steps call ≡ Some name) × (call_named v es steps by ≡ Some other) × ((hands name other s ≡ true) ⊎ (ReceivesTaken name other s × IsAsked es by))

tells_taken : (es : Past) (by : ℕ) (name other : Name) (s : Step) → (hands name other s ≡ true) ⊎ (ReceivesTaken name other s × IsAsked es by) → TellsTaken name other s
tells_taken es by name other s (inl own) = inl own
tells_taken es by name other s (inr told) = inr told.0

by_told : (v : ℕ) (es : Past) (steps : List Step) (c by : ℕ) (s : Step) → Says v es steps (AnswerBy c by) s → AreTakenNames v (AnswerBy c by ∷ es) (s ∷ steps) c by s
by_told v es steps c by s says =
    let names = naming v (AnswerBy c by ∷ es) (s ∷ steps) in
    let name = then_is (λ name. option_map (λ other. step.AnswerBy v name other) (names.call by)) (names.call c) s says in
    let other = mapped_is (λ other. step.AnswerBy v name.0 other) (names.call by) s name.2 in
    let own : hands name.0 other.0 (step.AnswerBy v name.0 other.0) ≡ true = ap₂ (λ a b. a && b) (own_same name.0) (own_same other.0) in
    (name.0, other.0, name.1, other.1, inl (subst (λ s. hands name.0 other.0 s ≡ true) other.2 own))

taken_told : (v call by : ℕ) (es : Past) (steps : List Step) (k c : ℕ) (rs : List ℕ) (head : ReturnHead) (n : ℕ) (s : Step) → Says v es steps (Wire false k c rs (Return head (TakeFrom n))) s →
    is call (call_at (opening (id k true head.answer) es)) ≡ true → is_late es (Wire false k c rs (Return head (TakeFrom n))) ≡ false → call_of (id k false n) es ≡ Some by →
    AreTakenNames v (Wire false k c rs (Return head (TakeFrom n)) ∷ es) (s ∷ steps) call by s
taken_told v call by es steps k c rs head n s says own late from =
    let e = Wire false k c rs (Return head (TakeFrom n)) in
    let names = naming v (e ∷ es) (s ∷ steps) in
    let heard_so = says_heard says in
    let t = taken_parts names es k c rs head n heard_so.0 heard_so.1 in
    let came = in_time (is_late es e) says.message (message.Taken t.name t.by_name) (message.Late t.name) late
    (taken_heard es e says.message t.name t.by_name (subst (λ m. heard es e says.message m ≡ read es e says.message) t.is heard_so.2)) in
    let same = call_is (is_over (id k true head.answer) es) (call_at (opening (id k true head.answer) es)) call t.call own t.answered in
    let same_by : t.by ≡ by = some_same (sym t.taken ∙ from) in (
      t.name,
      t.by_name,
      ap names.call (sym same) ∙ t.named,
      ap names.call (sym same_by) ∙ t.by_named,
      inr ((v, k, says.bound, says.step ∙ ap (λ m. step.Receive v k m says.bound) came), (k, n, call_in_use (id k false n) es by from)),
    )

-- where a record answers a call by another
taken_in_time : (late : Bool) (o : Option ℕ) (by : ℕ) → (if late then None else o) ≡ Some by → (late ≡ false) × (o ≡ Some by)
taken_in_time true o by h = absurd (none_some h)
taken_in_time false o by h = (refl, h)

answerer_is : (b : Bool) (o : Option ℕ) (by : ℕ) → (if b then o else None) ≡ Some by → (b ≡ true) × (o ≡ Some by)
answerer_is true o by h = (refl, h)
answerer_is false o by h = absurd (none_some h)

answerer_told : (v call by : ℕ) (es : Past) (steps : List Step) (e : DecodedRecord) (s : Step) → Says v es steps e s → answerer call es e ≡ Some by → AreTakenNames v (e ∷ es) (s ∷ steps) call by s
answerer_told v call by es steps (AnswerBy c other) s says h =
    let t = answerer_is (c == call) (Some other) by h in
    subst (λ call. AreTakenNames v (AnswerBy c other ∷ es) (s ∷ steps) call by s) (eqb-true c call t.0)
    (subst (λ by. AreTakenNames v (AnswerBy c other ∷ es) (s ∷ steps) c by s) (some_same t.1) (by_told v es steps c other s says))
answerer_told v call by es steps (Wire false k c rs (Return head (TakeFrom n))) s says h =
    let e = Wire false k c rs (Return head (TakeFrom n)) in
    let t = answerer_is (is call (call_at (opening (id k true head.answer) es))) (call_taken_from es e) by h in
    let on = taken_in_time (is_late es e) (call_of (id k false n) es) by t.1 in
    taken_told v call by es steps k c rs head n s says t.0 on.0 on.1
answerer_told v call by es steps e s says h = absurd (none_some h)

known_told : (v call : ℕ) (es : Past) (steps : List Step) (e : DecodedRecord) (s : Step) → Says v es steps e s → knows call es e ≡ true → (name : Name) × (call_named v (e ∷ es) (s ∷ steps) call ≡ Some name) × TellsResults name s
known_told v call es steps (Answer c results) s says h =
    subst (λ call. (name : Name) × (call_named v (Answer c results ∷ es) (s ∷ steps) call ≡ Some name) × TellsResults name s) (eqb-true c call h) (answer_told v es steps c results s says)
known_told v call es steps (Wire false k c rs (Return head (Results payload))) s says h =
    let e = Wire false k c rs (Return head (Results payload)) in
    let parts = and_parts (is call (call_at (opening (id k true head.answer) es))) (not (is_late es e)) h in
    results_told v call es steps k c rs head payload s says parts.0 (not-true (is_late es e) parts.1)
known_told v call es steps (Wire false k c rs (Return head (TakeFrom n))) s says h =
    let e = Wire false k c rs (Return head (TakeFrom n)) in
    let by = there (answerer call es e) h in
    let t = answerer_told v call by.0 es steps e s says by.1 in
    (t.0, t.2, inr (inl (t.1, tells_taken (e ∷ es) by.0 t.0 t.1 s t.4)))
known_told v call es steps (AnswerBy c by) s says h =
    let t = by_told v es steps c by s says in
    subst (λ call. (name : Name) × (call_named v (AnswerBy c by ∷ es) (s ∷ steps) call ≡ Some name) × TellsResults name s) (eqb-true c call h)
    (t.0, t.2, inr (inl (t.1, tells_taken (AnswerBy c by ∷ es) by t.0 t.1 s t.4)))
known_told v call es steps e s says h = absurd (false≢true h)

-- a call was answered by another, or it is that one and was passed back
abbrev IsHanded : List Step → Name → Name → Type 0
IsHanded before name other = (list_any (hands name other) before || (is_same_call name other && is_passed_back name before)) ≡ true

-- a call was answered or passed back
abbrev IsReturned : List Step → Name → Type 0
IsReturned before name = (list_any (answers_call name) before || is_passed_back name before) ≡ true

handed_later : (later earlier : List Step) (name other : Name) → IsHanded earlier name other → IsHanded (later ++ earlier) name other
handed_later later earlier name other h = elim (or_either (list_any (hands name other) earlier) (is_same_call name other && is_passed_back name earlier) h) [
  | inl handed ↦ or_left (list_any (hands name other) (later ++ earlier)) (is_same_call name other && is_passed_back name (later ++ earlier)) (passes_later (hands name other) later earlier handed)
  | inr back ↦
      let parts = and_parts (is_same_call name other) (is_passed_back name earlier) back in
      or_right (list_any (hands name other) (later ++ earlier)) (is_same_call name other && is_passed_back name (later ++ earlier))
      (and_from (is_same_call name other) (is_passed_back name (later ++ earlier)) parts.0 (passes_later (passes_back name) later earlier parts.1))
]

-- a step that stands in the run passes a test there
stands_so : (test : Step → Bool) (before : List Step) (s : Step) → StandsIn before s → test s ≡ true → list_any test before ≡ true
stands_so test before s at so = subst (λ l. list_any test l ≡ true) (sym at.2) (passes_later test at.0 (s ∷ at.1) (or_left (test s) (list_any test at.1) so))

-- such a step stands behind one that answers the call by the other, or passes it back
told_taken : (before : List Step) (name other : Name) (s : Step) → EachStep IsLegal before → EachStep IsLinked before → StandsIn before s → TellsTaken name other s → IsHanded before name other
told_taken before name other s legal linked at (inl own) =
    or_left (list_any (hands name other) before) (is_same_call name other && is_passed_back name before) (stands_so (hands name other) before s at own)
told_taken before name other s legal linked at (inr r) =
    let legal_then = each_earlier IsLegal at.0 (s ∷ at.1) (subst (EachStep IsLegal) at.2 legal) in
    let linked_then = each_earlier IsLinked at.0 (s ∷ at.1) (subst (EachStep IsLinked) at.2 linked) in
    let told = received_taken at.1 legal_then.1 r.0 r.1 name other r.2 (subst (IsLinked at.1) r.3 linked_then.0) in
    subst (λ l. IsHanded l name other) (sym at.2) (handed_later at.0 (s ∷ at.1) name other (handed_later (s ∷ []) at.1 name other told))

-- and answers it so
hands_answers : (name other : Name) (s : Step) → hands name other s ≡ true → answers_call name s ≡ true
hands_answers name other (step.AnswerBy v c d) h = (and_parts (is_same_call c name) (is_same_call d other) h).0
hands_answers name other s h = absurd (false≢true h)

handed_returned : (name other : Name) (before : List Step) → IsHanded before name other → IsReturned before name
handed_returned name other before h = elim (or_either (list_any (hands name other) before) (is_same_call name other && is_passed_back name before) h) [
  | inl handed ↦ or_left (list_any (answers_call name) before) (is_passed_back name before) (some_of (hands name other) (answers_call name) (hands_answers name other) before handed)
  | inr back ↦ or_right (list_any (answers_call name) before) (is_passed_back name before) (and_parts (is_same_call name other) (is_passed_back name before) back).1
]

told_returned : (before : List Step) (name : Name) (s : Step) → EachStep IsLegal before → EachStep IsLinked before → StandsIn before s → TellsResults name s → IsReturned before name
told_returned before name s legal linked at (inr (inl taken)) = handed_returned name taken.0 before (told_taken before name taken.0 s legal linked at taken.1)
told_returned before name s legal linked at (inl own) = or_left (list_any (answers_call name) before) (is_passed_back name before) (stands_so (answers_call name) before s at own)
told_returned before name s legal linked at (inr (inr r)) =
    let legal_then = each_earlier IsLegal at.0 (s ∷ at.1) (subst (EachStep IsLegal) at.2 legal) in
    let linked_then = each_earlier IsLinked at.0 (s ∷ at.1) (subst (EachStep IsLinked) at.2 linked) in
    let told = received_answered at.1 legal_then.1 r.0 r.1 name r.2 r.3 r.4 (subst (IsLinked at.1) r.5 linked_then.0) in
    subst (λ l. IsReturned l name) (sym at.2)
    (either_later (answers_call name) (passes_back name) at.0 (s ∷ at.1) (either_later (answers_call name) (passes_back name) (s ∷ []) at.1 told))

known_returned : (v : ℕ) (es : Past) (steps before : List Step) → IsWithin v es steps before → (call : ℕ) (name : Name) → is_known call es ≡ true → call_named v es steps call ≡ Some name → IsReturned before name
known_returned v es steps before w call name known named =
    let t = passed_at (knows call) es known in
    let pair = paired_at v t.0 t.1 t.2 steps (subst (λ es. PairsOff v es steps) t.3 w.paired) in
    let at = stands_in (λ s. vat_of s == v) before pair.added pair.earlier pair.step (w.own ∙ pair.whole) in
    let told = known_told v call t.2 pair.earlier t.1 pair.step pair.paired.0 t.4 in
    let later = call_keeps v t.0 (t.1 ∷ t.2) pair.added (pair.step ∷ pair.earlier) pair.as_long (each_after t.0 (t.1 ∷ t.2) (subst (Each Refers) t.3 w.refers)) call told.0 told.1 in
    let same : told.0 ≡ name = some_same (sym later ∙ sym (ap₂ (λ es steps. call_named v es steps call) t.3 pair.whole) ∙ named) in
    subst (IsReturned before) same (told_returned before told.0 pair.step w.legal w.linked at told.2)

-- ---- a call that was answered by another was so in the run, or was passed back

-- a record of the log gives this answer
abbrev Given : {A : Type 0} → (Past → DecodedRecord → Option A) → Past → A → Type 0
Given ask past x = (later : List DecodedRecord) × (e : DecodedRecord) × (before : Past) × (past ≡ later ++ e ∷ before) × (ask before e ≡ Some x)

given_at : {A : Type 0} (ask : Past → DecodedRecord → Option A) (past : Past) (x : A) → last_answer ask past ≡ Some x → Given ask past x
given_at ask [] x h = absurd (none_some h)
given_at ask (e ∷ before) x h = at (ask before e) refl h (given_at ask before x)
  where
    at : (o : Option _) → ask before e ≡ o → option_or o (last_answer ask before) ≡ Some x → (last_answer ask before ≡ Some x → Given ask before x) → Given ask (e ∷ before) x
    at None n h rest = let r = rest h in (e ∷ r.0, r.1, r.2, ap (λ l. e ∷ l) r.3, r.4)
    at (Some y) n h rest = ([], e, before, refl, n ∙ h)

-- the other call was asked of this vat where the first was passed back
abbrev pub IsHandedOn : List Step → Past → ℕ → Name → Name → Type 0
IsHandedOn before es by name other = (list_any (hands name other) before ≡ true) ⊎ (((is_same_call name other && is_passed_back name before) ≡ true) × IsHeard es by)

told_on : (before : List Step) (es later : Past) (e : DecodedRecord) (past : Past) (by : ℕ) (name other : Name) (s : Step) → EachStep IsLegal before → EachStep IsLinked before → StandsIn before s → es ≡ later ++ e ∷ past →
    (hands name other s ≡ true) ⊎ (ReceivesTaken name other s × IsAsked (e ∷ past) by) → IsHandedOn before es by name other
told_on before es later e past by name other s legal linked at whole (inl own) = inl (stands_so (hands name other) before s at own)
told_on before es later e past by name other s legal linked at whole (inr told) =
    elim (or_either (list_any (hands name other) before) (is_same_call name other && is_passed_back name before) (told_taken before name other s legal linked at (inr told.0))) [
      | inl handed ↦ inl handed
      | inr back ↦ inr (back, (told.1.0, told.1.1, e ∷ past, (later, whole), told.1.2))
    ]

pub answered_on : (v : ℕ) (es : Past) (steps before : List Step) → IsWithin v es steps before → (call by : ℕ) (name other : Name) → answered_by call es ≡ Some by → call_named v es steps call ≡ Some name →
    call_named v es steps by ≡ Some other → IsHandedOn before es by name other
answered_on v es steps before w call by name other answered named by_named =
    let t = given_at (answerer call) es by answered in
    let pair = paired_at v t.0 t.1 t.2 steps (subst (λ es. PairsOff v es steps) t.3 w.paired) in
    let at = stands_in (λ s. vat_of s == v) before pair.added pair.earlier pair.step (w.own ∙ pair.whole) in
    let told = answerer_told v call by t.2 pair.earlier t.1 pair.step pair.paired.0 t.4 in
    let refers = each_after t.0 (t.1 ∷ t.2) (subst (Each Refers) t.3 w.refers) in
    let later = call_keeps v t.0 (t.1 ∷ t.2) pair.added (pair.step ∷ pair.earlier) pair.as_long refers in
    let same : told.0 ≡ name = some_same (sym (later call told.0 told.2) ∙ sym (ap₂ (λ es steps. call_named v es steps call) t.3 pair.whole) ∙ named) in
    let same_by : told.1 ≡ other = some_same (sym (later by told.1 told.3) ∙ sym (ap₂ (λ es steps. call_named v es steps by) t.3 pair.whole) ∙ by_named) in
    subst (λ name. IsHandedOn before es by name other) same
    (subst (λ other. IsHandedOn before es by told.0 other) same_by (told_on before es t.0 t.1 t.2 by told.0 told.1 pair.step w.legal w.linked at t.3 told.4))

-- ---- what stands at a place of a record's caps is what a view became, where the log says so

together_back : {A : Type 0} (f : A → Option Cap) (xs : List A) (i : ℕ) (cs : List Cap) (c : Cap) → all_there (map f xs) ≡ Some cs → slice_get cs i ≡ Some c → (x : A) × (slice_get xs i ≡ Some x) × (f x ≡ Some c)
together_back f [] i cs c h there = let none : [] ≡ cs = some_same h in absurd (none_some (ap (λ l. slice_get l i) none ∙ there))
together_back f (x ∷ xs) i cs c h there = at (f x) refl h i there (λ i. together_back f xs i)
  where
    at : (o : Option Cap) → f x ≡ o → all_there (o ∷ map f xs) ≡ Some cs → (i : ℕ) → slice_get cs i ≡ Some c →
        ((i : ℕ) (cs : List Cap) (c : Cap) → all_there (map f xs) ≡ Some cs → slice_get cs i ≡ Some c → (x : _) × (slice_get xs i ≡ Some x) × (f x ≡ Some c)) → (y : _) × (slice_get (x ∷ xs) i ≡ Some y) × (f y ≡ Some c)
    at None e h i there rest = absurd (none_some h)
    at (Some y) e h zero there rest =
        let ys = mapped_is (λ ys. y ∷ ys) (all_there (map f xs)) cs h in
        let same : y ≡ c = some_same (ap (λ l. slice_get l 0) ys.2 ∙ there) in (x, refl, e ∙ ap (λ y. Some y) same)
    at (Some y) e h (suc i) there rest =
        let ys = mapped_is (λ ys. y ∷ ys) (all_there (map f xs)) cs h in rest i ys.0 c ys.1 (ap (λ l. slice_get l (suc i)) ys.2 ∙ there)

-- a cap that is there stands for the view of a descriptor that isn't none
abbrev Describes : Naming → Past → DecodedRecord → ℕ → Cap → Type 0
Describes names es e place c = (b : View) × (view_of_descriptor es e place ≡ Some b) × (names.cap b ≡ Some c) × (is_cap_at (slice_get (descriptors e) place) ≡ true)

cap_described : (names : Naming) (es : Past) (e : DecodedRecord) (place : ℕ) (c : Cap) (d : Descriptor) → slice_get (descriptors e) place ≡ Some d → descriptor_named names es e d ≡ Some c → is_present c ≡ true → Describes names es e place c
cap_described names es e place c NoCap at named is = absurd (let same : cap.Nothing ≡ c = some_same named in false≢true (ap is_present same ∙ is))
cap_described names es e place c d at named is =
    let b = then_is names.cap (descriptor_view (view_of_reference es) es e d) c named in
    (b.0, ap (λ o. option_and_then (descriptor_view (view_of_reference es) es e) o) at ∙ b.1, b.2, ap is_cap_at at)

cap_there : (names : Naming) (es : Past) (e : DecodedRecord) (place : ℕ) (cs : List Cap) (c : Cap) → caps_named names es e ≡ Some cs → slice_get cs place ≡ Some c → is_present c ≡ true → Describes names es e place c
cap_there names es e place cs c all there is =
    let d = together_back (descriptor_named names es e) (descriptors e) place cs c all there in cap_described names es e place c d.0 d.1 d.2 is

-- a view became what it leads to by 1 or more turns
led_on : (es : Past) (from to : Option View) → LeadsOnTo es from to → BecameThere es from to
led_on es None to led = absurd led
led_on es (Some a) None led = absurd led
led_on es (Some a) (Some b) (turned {b = first} h rest) = (first, h, (b, onward h rest, stay))

went_on : (own : Bool) (es : Past) (from to : Option View) → WentOn Later own es from to → BecameThere es from to
went_on true es from to went = went
went_on false es from to went = led_on es from to went

resolved_to : (own : Bool) (es : Past) (from to : Option View) → ResolvesTo Later own es from to → BecameThere es from to
resolved_to own es from to (inl led) = led_on es from to led
resolved_to own es from to (inr became) = became.1

module _ (v : ℕ) (es : Past) (steps before : List Step) (w : IsWithin v es steps before) (good : Each IsGood es) (S : Option View → Option View → Type 0) (R : Cap → Cap → Type 0)
    (follow : NamesFollow (cap_named v es steps) S R) (k c : ℕ) (rs : List ℕ) (m : RpcMessage) (s : Step) (g : IsGood es (Wire true k c rs m)) (late : is_late es (Wire true k c rs m) ≡ false) where
  abbrev telling : DecodedRecord
  telling = Wire true k c rs m

  -- where a view and that of a descriptor are so related, so are its name and the cap at that place
  pub described_so : (from : Option View) (x : Cap) (place : ℕ) (y : Cap) → option_and_then (cap_named v es steps) from ≡ Some x → Describes (naming v (telling ∷ es) (s ∷ steps)) es telling place y →
      (is_cap_at (slice_get (descriptors telling) place) ≡ true → S from (view_of_descriptor es telling place)) → R x y
  described_so from x place y named d so =
      let known = described_known es k c rs m (all_sound (telling ∷ es) (g, good)) late place d.0 d.1 in
      let there = known_named v es steps before w telling s (g rule.Ref) (Some d.0) known y d.2 in
      follow from (Some d.0) x y named there (subst (S from) d.1 (so d.3))

  module _ (call : ℕ) (name : Name) (cs : List Cap) (named : call_named v es steps call ≡ Some name) (all : caps_named (naming v (telling ∷ es) (s ∷ steps)) es telling ≡ Some cs) (P : List ℕ × ℕ → Type 0)
      (rule_so : (field : List ℕ × ℕ) → P field → is_cap_at (slice_get (descriptors telling) field.1) ≡ true → S (Some (FieldOf call field.0)) (view_of_descriptor es telling field.1)) where
    pub results_so : (fields : List (List ℕ × ℕ)) → AllByRecursion P fields → AllByRecursion (λ result. R (cap.Field name result.0) result.1) (caps_at_paths cs fields)
    results_so [] rules = tt
    results_so (field ∷ fields) rules = at (cap_at field.1 cs) refl (results_so fields rules.1)
      where
        at : (o : Option Cap) → cap_at field.1 cs ≡ o → AllByRecursion (λ result. R (cap.Field name result.0) result.1) (caps_at_paths cs fields) →
            AllByRecursion (λ (result : List ℕ × Cap). R (cap.Field name result.0) result.1) (cons_option (option_map (λ c. (field.0, c)) o) (caps_at_paths cs fields))
        at None h rest = rest
        at (Some y) h rest =
            let there = cap_at_is field.1 cs y h in
            let d = cap_there (naming v (telling ∷ es) (s ∷ steps)) es telling field.1 cs y all there.0 there.1 in
            (described_so (Some (FieldOf call field.0)) (cap.Field name field.0) field.1 y (ap (λ o. option_map (λ n. cap.Field n field.0) o) named) d (rule_so field rules.0), rest)

-- ---- together

pub and_then_there : {A : Type 0} (o : Option A) (P : A → Type 0) → IsSomeAnd o P → (x : A) × (o ≡ Some x) × P x
and_then_there (Some x) P h = (x, refl, h)
and_then_there None P h = absurd h

call_here : (free : Bool) (o : Option ℕ) (c : ℕ) → (if free then None else o) ≡ Some c → o ≡ Some c
call_here true o c h = absurd (none_some h)
call_here false o c h = h

module _ (v : ℕ) (es : Past) (steps before : List Step) (w : IsWithin v es steps before) (good : Each IsGood es) (k c : ℕ) (rs : List ℕ) where
  sent_is : (m : RpcMessage) (s : Step) → Says v es steps (Wire true k c rs m) s → (M : Message) × (message_of_record (naming v (Wire true k c rs m ∷ es) (s ∷ steps)) es (Wire true k c rs m) ≡ Some M) × (step.Send v k M ≡ s)
  sent_is m s says = mapped_is (λ M. step.Send v k M) (message_of_record (naming v (Wire true k c rs m ∷ es) (s ∷ steps)) es (Wire true k c rs m)) s says

  module _ (head : ReturnHead) (payload : Payload) (s : Step) where
    abbrev giving : DecodedRecord
    giving = Wire true k c rs (Return head (Results payload))

    abbrev names : Naming
    names = naming v (giving ∷ es) (s ∷ steps)

    -- what is so of each message that such a Return may say is so of the one that it says
    module _ (Q : Message → Type 0) (if_late : (name : Name) → Q (message.Late name))
        (if_timely : is_late es giving ≡ false → (name : Name) (call : ℕ) (cs : List Cap) → call_at (opening (id k false head.answer) es) ≡ Some call → call_named v es steps call ≡ Some name → caps_named names es giving ≡ Some cs →
        Q (message.Return name (caps_at_paths cs payload.fields) cs)) where
      results_said : (late : Bool) → is_late es giving ≡ late → (M : Message) (name : Name) (call : ℕ) → call_at (opening (id k false head.answer) es) ≡ Some call → call_named v es steps call ≡ Some name →
          say_return (is_late es giving) payload.fields name (caps_named names es giving) ≡ Some M → Q M
      results_said true late M name call asked named h =
          let same : message.Late name ≡ M = some_same (sym (ap (λ b. say_return b payload.fields name (caps_named names es giving)) late) ∙ h) in subst Q same (if_late name)
      results_said false late M name call asked named h =
          let told = return_said (is_late es giving) payload.fields name (caps_named names es giving) M late h in subst Q (sym told.2) (if_timely late name call told.0 asked named told.1)

      pub each_returned : (M : Message) → message_of_record names es giving ≡ Some M → Q M
      each_returned M said =
          let name = then_is (λ name. say_return (is_late es giving) payload.fields name (caps_named names es giving)) (call_answered names es k true head.answer) M said in
          let asked = then_is names.call (call_of (id k false head.answer) es) name.0 name.1 in
          results_said (is_late es giving) refl M name.0 asked.0 (call_here (is_over (id k false head.answer) es) (call_at (opening (id k false head.answer) es)) asked.0 asked.1) asked.2 name.2

    results_may : IsGood es giving → is_late es giving ≡ false → (name : Name) (call : ℕ) (cs : List Cap) → call_at (opening (id k false head.answer) es) ≡ Some call → call_named v es steps call ≡ Some name →
        caps_named names es giving ≡ Some cs → MaySend before v (message.Return name (caps_at_paths cs payload.fields) cs)
    results_may g late name call cs asked named all =
        let known : ReturnsFields Later es giving payload.fields call = subst (λ o. IsSomeAnd o (ReturnsFields Later es giving payload.fields)) asked (g rule.Result late).1 in
        let follow = became_there v es steps before w in (
          known_returned v es steps before w call name known.0 named,
          results_so v es steps before w good (BecameThere es) (Became before) follow k c rs (Return head (Results payload)) s g late call name cs named all (ReturnsField Later es giving call)
              (λ field went caps. went_on (is_own_number (slice_get (descriptors giving) field.1)) es (Some (FieldOf call field.0)) (view_of_descriptor es giving field.1) (went caps)) payload.fields known.1,
        )

    results_come : IsGood es giving → Says v es steps giving s → MayCome before s
    results_come g says =
        let M = sent_is (Return head (Results payload)) s says in
        subst (MayCome before) M.2 (each_returned (MaySend before v) (λ name. tt) (results_may g) M.0 M.1)

  module _ (head : ReturnHead) (n : ℕ) (s : Step) where
    abbrev taking : DecodedRecord
    taking = Wire true k c rs (Return head (TakeFrom n))

    abbrev from : Option Name
    from = option_and_then (naming v (taking ∷ es) (s ∷ steps)).call (call_of (id k true n) es)

    -- what is so of each message that such a Return may say is so of the one that it says
    module _ (Q : Message → Type 0) (if_late : (name : Name) → Q (message.Late name))
        (if_timely : is_late es taking ≡ false → (name other : Name) (call by : ℕ) → call_at (opening (id k false head.answer) es) ≡ Some call → call_named v es steps call ≡ Some name → call_of (id k true n) es ≡ Some by →
        call_named v es steps by ≡ Some other → Q (message.Taken name other)) where
      taken_said : (late : Bool) → is_late es taking ≡ late → (M : Message) (name : Name) (call : ℕ) → call_at (opening (id k false head.answer) es) ≡ Some call → call_named v es steps call ≡ Some name →
          say_taken (is_late es taking) name from ≡ Some M → Q M
      taken_said true late M name call asked named h =
          let same : message.Late name ≡ M = some_same (sym (ap (λ b. say_taken b name from) late) ∙ h) in subst Q same (if_late name)
      taken_said false late M name call asked named h =
          let other = mapped_is (λ by. message.Taken name by) from M (sym (ap (λ b. say_taken b name from) late) ∙ h) in
          let by = then_is (naming v (taking ∷ es) (s ∷ steps)).call (call_of (id k true n) es) other.0 other.1 in
          subst Q other.2 (if_timely late name other.0 call by.0 asked named by.1 by.2)

      pub each_taken : (M : Message) → message_of_record (naming v (taking ∷ es) (s ∷ steps)) es taking ≡ Some M → Q M
      each_taken M said =
          let names = naming v (taking ∷ es) (s ∷ steps) in
          let name = then_is (λ name. say_taken (is_late es taking) name from) (call_answered names es k true head.answer) M said in
          let asked = then_is names.call (call_of (id k false head.answer) es) name.0 name.1 in
          taken_said (is_late es taking) refl M name.0 asked.0 (call_here (is_over (id k false head.answer) es) (call_at (opening (id k false head.answer) es)) asked.0 asked.1) asked.2 name.2

    -- a call that is passed back was sent on
    passed_may : (name other : Name) (by : ℕ) → is_same_call name other ≡ true → IsHeard es by → call_of (id k true n) es ≡ Some by → call_named v es steps by ≡ Some other → MaySend before v (message.Taken name other)
    passed_may name other by same heard stands by_named =
        let sent = subst (λ d. list_any (sends_on d v) before ≡ true) (sym (names_same name other same)) (sent_on v es steps before w by k n stands heard other by_named) in
        or_right (list_any (hands name other) before) (is_same_call name other && list_any (sends_on name v) before) (and_from (is_same_call name other) (list_any (sends_on name v) before) same sent)

    handed_may : (name other : Name) (by : ℕ) → call_of (id k true n) es ≡ Some by → call_named v es steps by ≡ Some other → IsHandedOn before es by name other → MaySend before v (message.Taken name other)
    handed_may name other by stands by_named (inl handed) = or_left (list_any (hands name other) before) (is_same_call name other && list_any (sends_on name v) before) handed
    handed_may name other by stands by_named (inr back) =
        passed_may name other by (and_parts (is_same_call name other) (is_passed_back name before) back.0).0 back.1 stands by_named

    taken_may : (name other : Name) (call by : ℕ) → call_at (opening (id k false head.answer) es) ≡ Some call → call_named v es steps call ≡ Some name → call_of (id k true n) es ≡ Some by → call_named v es steps by ≡ Some other →
        ReturnsTaken Later es (call_of (id k true n) es) call → MaySend before v (message.Taken name other)
    taken_may name other call by asked named stands by_named (inl answered_so) =
        let answered = and_then_there (answered_by call es) (λ d. call_of (id k true n) es ≡ Some d) answered_so in
        let same : answered.0 ≡ by = some_same (sym answered.2 ∙ stands) in
        handed_may name other by stands by_named (answered_on v es steps before w call by name other (answered.1 ∙ ap (λ d. Some d) same) named by_named)
    taken_may name other call by asked named stands by_named (inr own) =
        let same : call ≡ by = some_same (sym own ∙ stands) in
        let names : name ≡ other = some_same (sym named ∙ ap (call_named v es steps) same ∙ by_named) in
        passed_may name other by (subst (λ d. is_same_call name d ≡ true) names (own_same name)) (k, head.answer, es, ([], refl), asked ∙ ap (λ c. Some c) same) stands by_named

    taken_comes : IsGood es taking → Says v es steps taking s → MayCome before s
    taken_comes g says =
        let M = sent_is (Return head (TakeFrom n)) s says in
        subst (MayCome before) M.2 (each_taken (MaySend before v) (λ name. tt) (λ late name other call by asked named stands by_named.
        taken_may name other call by asked named stands by_named (subst (λ o. IsSomeAnd o (ReturnsTaken Later es (call_of (id k true n) es))) asked (g rule.Result late))) M.0 M.1)

  -- a message of which nothing is asked
  free_comes : (m : RpcMessage) (s : Step) (answer : Name → Message) → ((name : Name) → MaySend before v (answer name)) → (q : ℕ) → ((names : Naming) → message_of_record names es (Wire true k c rs m) ≡ option_map answer (call_answered names es k true q)) →
      Says v es steps (Wire true k c rs m) s → MayCome before s
  free_comes m s answer may q is says =
      let names = naming v (Wire true k c rs m ∷ es) (s ∷ steps) in
      let M = sent_is m s says in
      let name = mapped_is answer (call_answered names es k true q) M.0 (sym (is names) ∙ M.1) in
      subst (MayCome before) M.2 (subst (MaySend before v) name.2 (may name.0))

  pub return_comes : (head : ReturnHead) (outcome : Outcome) (s : Step) → IsGood es (Wire true k c rs (Return head outcome)) → Says v es steps (Wire true k c rs (Return head outcome)) s → MayCome before s
  return_comes head (Results payload) s g says = results_come head payload s g says
  return_comes head Exception s g says = free_comes (Return head Exception) s message.Failed (λ name. tt) head.answer (λ names. refl) says
  return_comes head Canceled s g says = free_comes (Return head Canceled) s message.Failed (λ name. tt) head.answer (λ names. refl) says
  return_comes head Elsewhere s g says = free_comes (Return head Elsewhere) s message.Elsewhere (λ name. tt) head.answer (λ names. refl) says
  return_comes head (TakeFrom n) s g says = taken_comes head n s g says

  module _ (n : ℕ) (resolution : Resolution) (s : Step) where
    abbrev resolving : DecodedRecord
    resolving = Wire true k c rs (Resolve n resolution)

    -- where the view of the promise and that of the descriptor are so related, so are their names
    pub promise_so : (S : Option View → Option View → Type 0) (R : Cap → Cap → Type 0) → NamesFollow (cap_named v es steps) S R → IsGood es resolving →
        (is_cap_at (slice_get (descriptors resolving) 0) ≡ true → S (view_of_number (id k true n) es) (view_of_descriptor es resolving 0)) → (promise x : Cap) (cs : List Cap) →
        promise_named (naming v (resolving ∷ es) (s ∷ steps)) es k true n ≡ Some promise → caps_named (naming v (resolving ∷ es) (s ∷ steps)) es resolving ≡ Some cs → slice_get cs 0 ≡ Some x → is_present x ≡ true → R promise x
    promise_so S R follow g so promise x cs named all there is =
        let from = view_of_number (id k true n) es in
        let resolves = g rule.Resolve in
        let known = number_known es k true n (all_sound es good) (unresolved_lives (id k true n) es resolves.0) in
        described_so v es steps before w good S R follow k c rs (Resolve n resolution) s g refl from promise 0 x (known_named v es steps before w resolving s (g rule.Ref) from known promise named)
        (cap_there (naming v (resolving ∷ es) (s ∷ steps)) es resolving 0 cs x all there is) so

    -- what is so of each message that such a Resolve may say is so of the one that it says
    module _ (Q : Message → Type 0) (if_broken : (promise : Cap) → Q (message.Broken promise))
        (to_cap : (promise x : Cap) (cs : List Cap) → promise_named (naming v (resolving ∷ es) (s ∷ steps)) es k true n ≡ Some promise → caps_named (naming v (resolving ∷ es) (s ∷ steps)) es resolving ≡ Some cs →
        slice_get cs 0 ≡ Some x → is_present x ≡ true → Q (message.Resolve promise x)) where
      resolve_said : (promise : Cap) (cs : List Cap) → ((x : Cap) → slice_get cs 0 ≡ Some x → is_present x ≡ true → Q (message.Resolve promise x)) → Q (say_resolve promise cs)
      resolve_said promise [] so = if_broken promise
      resolve_said promise (cap.Nothing ∷ cs) so = if_broken promise
      resolve_said promise (x ∷ cs) so = so x refl refl

      pub each_resolved : (M : Message) → message_of_record (naming v (resolving ∷ es) (s ∷ steps)) es resolving ≡ Some M → Q M
      each_resolved M said =
          let names = naming v (resolving ∷ es) (s ∷ steps) in
          let promise = then_is (λ promise. option_map (say_resolve promise) (caps_named names es resolving)) (promise_named names es k true n) M said in
          let cs = mapped_is (say_resolve promise.0) (caps_named names es resolving) M promise.2 in
          subst Q cs.2 (resolve_said promise.0 cs.0 (λ x there is. to_cap promise.0 x cs.0 promise.1 cs.1 there is))

  pub resolve_comes : (n : ℕ) (resolution : Resolution) (s : Step) → IsGood es (Wire true k c rs (Resolve n resolution)) → Says v es steps (Wire true k c rs (Resolve n resolution)) s → MayCome before s
  resolve_comes n resolution s g says =
      let e = Wire true k c rs (Resolve n resolution) in
      let M = sent_is (Resolve n resolution) s says in
      let own = is_own_number (slice_get (descriptors e) 0) in
      let resolves = g rule.Resolve in
      subst (MayCome before) M.2 (each_resolved n resolution s (MaySend before v) (λ promise. tt) (promise_so n resolution s (BecameThere es) (Became before) (became_there v es steps before w) g
      (λ caps. resolved_to own es (view_of_number (id k true n) es) (view_of_descriptor es e 0) (resolves.1 caps))) M.0 M.1)
