-- What a vat makes by itself may come: its promises end once, and its calls are new.
use Rattle.std.proofs.Common.{◌≡◌, refl, sym, ◌∙◌, ap, subst, ℕ, ◌==◌, List, [], ◌∷◌, Bool, true, false, not, ◌||◌, ◌&&◌, Option, Some, None, if◌then◌else◌, option_and_then, option_map, ◌⊎◌, inl, inr}
use Rattle.std.specs.Prelude.{map, filter, find, unwrap_or, slice_get}
use Rattle.std.specs.List.{list_any}
use Rattle.std.specs.Option.{option_or}
use Rattle.std.proofs.lemmas.Bool.{eq-eqb, cases_Bool, and_from, and_parts, and_right, or_left, or_right, or_from, or_parts, false_from_ne_true, false≢true}
use Rattle.vat_rules.specs.Judged.{IsGood}
use Rattle.vat_rules.specs.OfPromises.{IsUnkept}
use Rattle.vat_rules.specs.declared.rule.Rule.TheVariants as rule
use Rattle.decoded_records.specs.Past.{Past, Each, id, last_answer}
use Rattle.decoded_records.specs.Bindings.{Refers, contains, is_bound_call, new_calls}
use Rattle.decoded_records.specs.Lives.{birth, descriptors}
use Rattle.decoded_records.specs.Views.{binds, descriptor_view, described_at, placed_references, view_given, view_of_reference, view_of_target}
use Rattle.vat_view.specs.Walks.{Next, stays, stops, on_to, keeps, is_promise, turn, next}
use Rattle.decoded_records.specs.Questions.{is_late, call_of}
use Rattle.call_trace.specs.Types.{Descriptor, SenderHosted, SenderPromise, ReceiverHosted, ReceiverAnswer, Results, Exception, Canceled, Elsewhere, TakeFrom, RpcMessage, Bootstrap, Call, Return, Finish, Resolve, Release, Disembargo, Abort, DecodedRecord, Host, Vow, Fulfil, Break, Make, Field, Deliver, Answer, AnswerBy, Fault, Wire, View, Object, Promise, FieldOf, Name, Cap, Message, Step}
use Rattle.call_trace.specs.Kinds.{is_own_making}
use Rattle.call_trace.specs.Naming.{Naming, naming, call_named}
use Rattle.call_trace.specs.Said.{all_there, message_of_record, say_call, say_return, say_taken, say_resolve, caps_named, promise_named, call_answered}
use Rattle.call_trace.specs.Part.{reference_named, promise_in, result_named, Says, SaysReceive, PairsOff}
use Rattle.call_trace.specs.Within.{IsWithin}
use Rattle.call_trace.proofs.Naming.{then_is, mapped_is}
use Rattle.run_model.specs.Legal.{IsLegal, MayCome, IsNew, MayEnd, begins_call, ends, vows}
use Rattle.run_model.specs.Steps.{call, is_same_call, vat_of}
use Rattle.run_model.specs.Steps.{EachStep}
use Rattle.run_model.specs.declared.cap.Cap.TheVariants as cap
use Rattle.run_model.specs.declared.message.Message.TheVariants as message
use Rattle.run_model.specs.declared.step.Step.TheVariants as step

-- ---- the step that a record says, by its parts

abbrev pub Form : ℕ → Past → List Step → DecodedRecord → Step → Type 0
Form v es steps (Host r object) s = step.Host v object ≡ s
Form v es steps (Vow r) s = step.Vow v r ≡ s
Form v es steps (Fulfil r to) s = (p : ℕ) × (c : Cap) × (promise_in (view_of_reference es r) ≡ Some p) × (step.Fulfil v p c ≡ s)
Form v es steps (Break r) s = (p : ℕ) × (promise_in (view_of_reference es r) ≡ Some p) × (step.Break v p ≡ s)
Form v es steps (Make c r interface method) s = (to : Cap) × (step.Make v c to r interface method ≡ s)
Form v es steps (Field r c path) s = (name : Name) × (step.Name v (cap.Field name path) ≡ s)
Form v es steps (Deliver c object) s = (name : Name) × (call_named v es steps c ≡ Some name) × (step.Deliver v name object ≡ s)
Form v es steps (Answer c results) s =
    (name : Name) × (caps : List (List ℕ × Cap)) × (call_named v es steps c ≡ Some name)
    × (all_there (map (result_named (naming v (Answer c results ∷ es) (s ∷ steps)) es) results) ≡ Some caps) × (step.Answer v name caps ≡ s)
Form v es steps (AnswerBy c by) s =
    (name : Name) × (by_name : Name) × (call_named v es steps c ≡ Some name) × (call_named v es steps by ≡ Some by_name) × (step.AnswerBy v name by_name ≡ s)
Form v es steps (Fault c) s = (name : Name) × (call_named v es steps c ≡ Some name) × (step.Fault v name ≡ s)
Form v es steps (Wire true k c rs m) s =
    (M : Message) × (message_of_record (naming v (Wire true k c rs m ∷ es) (s ∷ steps)) es (Wire true k c rs m) ≡ Some M) × (step.Send v k M ≡ s)
Form v es steps (Wire false k c rs m) s = SaysReceive (naming v (Wire false k c rs m ∷ es) (s ∷ steps)) es (Wire false k c rs m) k rs s

pub only : {A : Type 0} (x y : A) → ◌≡◌ {A = Option A} (Some x) (Some y) → x ≡ y
only x y h = cc

pub form : (v : ℕ) (es : Past) (steps : List Step) (e : DecodedRecord) (s : Step) → Says v es steps e s → Form v es steps e s
form v es steps (Host r object) s says = only (step.Host v object) s says
form v es steps (Vow r) s says = only (step.Vow v r) s says
form v es steps (Fulfil r to) s says =
    let names = naming v (Fulfil r to ∷ es) (s ∷ steps) in
    let p = then_is (λ p. option_map (λ c. step.Fulfil v p c) (reference_named names es to)) (promise_in (view_of_reference es r)) s says in
    let c = mapped_is (λ c. step.Fulfil v p.0 c) (reference_named names es to) s p.2 in
    (p.0, c.0, p.1, c.2)
form v es steps (Break r) s says = mapped_is (λ p. step.Break v p) (promise_in (view_of_reference es r)) s says
form v es steps (Make c r interface method) s says =
    let to = mapped_is (λ to. step.Make v c to r interface method) (reference_named (naming v (Make c r interface method ∷ es) (s ∷ steps)) es r) s says in
    (to.0, to.2)
form v es steps (Field r c path) s says =
    let name = mapped_is (λ name. step.Name v (cap.Field name path)) (call_named v es steps c) s says in
    (name.0, name.2)
form v es steps (Deliver c object) s says = mapped_is (λ name. step.Deliver v name object) (call_named v es steps c) s says
form v es steps (Answer c results) s says =
    let names = naming v (Answer c results ∷ es) (s ∷ steps) in
    let all = all_there (map (result_named names es) results) in
    let name = then_is (λ name. option_map (λ caps. step.Answer v name caps) all) (call_named v es steps c) s says in
    let caps = mapped_is (λ caps. step.Answer v name.0 caps) all s name.2 in
    (name.0, caps.0, name.1, caps.1, caps.2)
form v es steps (AnswerBy c by) s says =
    let name = then_is (λ name. option_map (λ other. step.AnswerBy v name other) (call_named v es steps by)) (call_named v es steps c) s says in
    let other = mapped_is (λ other. step.AnswerBy v name.0 other) (call_named v es steps by) s name.2 in
    (name.0, other.0, name.1, other.1, other.2)
form v es steps (Fault c) s says = mapped_is (λ name. step.Fault v name) (call_named v es steps c) s says
form v es steps (Wire true k c rs m) s says =
    mapped_is (λ M. step.Send v k M) (message_of_record (naming v (Wire true k c rs m ∷ es) (s ∷ steps)) es (Wire true k c rs m)) s says
form v es steps (Wire false k c rs m) s says = says

-- ---- tests of steps

-- no step of a run passes a test that a vat's steps alone can pass, where none of these does
pub none_by_others : (R : List Step → Step → Type 0) (p test : Step → Bool) → ((b : List Step) (s : Step) → R b s → test s ≡ true → p s ≡ true) → (before : List Step) → EachStep R before →
    list_any test (filter p before) ≡ false → list_any test before ≡ false
none_by_others R p test own [] all h = refl
none_by_others R p test own (s ∷ before) all h = elim (cases_Bool (p s)) [
  | inl kept ↦
      let parts = or_parts (test s) (list_any test (filter p before)) (sym (ap (λ b. list_any test (if b then s ∷ filter p before else filter p before)) kept) ∙ h) in
      or_from (test s) (list_any test before) parts.0 (none_by_others R p test own before all.1 parts.1)
  | inr other ↦
      or_from (test s) (list_any test before) (false_from_ne_true (test s) (λ e. false≢true (sym other ∙ own before s all.0 e)))
      (none_by_others R p test own before all.1 (sym (ap (λ b. list_any test (if b then s ∷ filter p before else filter p before)) other) ∙ h))
]

-- a run has the step that one of a vat's is
pub some_in_run : (p test : Step → Bool) (before : List Step) → list_any test (filter p before) ≡ true → list_any test before ≡ true
some_in_run p test [] h = h
some_in_run p test (s ∷ before) h = elim (cases_Bool (p s)) [
  | inl kept ↦ at (test s) (sym (ap (λ b. list_any test (if b then s ∷ filter p before else filter p before)) kept) ∙ h) (some_in_run p test before)
  | inr other ↦ or_right (test s) (list_any test before) (some_in_run p test before (sym (ap (λ b. list_any test (if b then s ∷ filter p before else filter p before)) other) ∙ h))
]
  where
    at : (b : Bool) → (b || list_any test (filter p before)) ≡ true → (list_any test (filter p before) ≡ true → list_any test before ≡ true) → (b || list_any test before) ≡ true
    at true h rest = refl
    at false h rest = rest h

-- no step of a vat passes a test where no record says one that does
pub none_said : (v : ℕ) (test : Step → Bool) (Q : Past → DecodedRecord → Type 0) → ((es : Past) (steps : List Step) (e : DecodedRecord) (s : Step) → Says v es steps e s → Q es e → test s ≡ false) →
    (es : Past) (steps : List Step) → PairsOff v es steps → Each Q es → list_any test steps ≡ false
none_said v test Q so [] [] part all = refl
none_said v test Q so [] (s ∷ steps) part all = absurd part
none_said v test Q so (e ∷ es) [] part all = absurd part
none_said v test Q so (e ∷ es) (s ∷ steps) part all = or_from (test s) (list_any test steps) (so es steps e s part.0 all.0) (none_said v test Q so es steps part.1 all.1)

-- ---- promises

-- an own promise for which a reference stands was vowed
bound_view : (p : ℕ) (b : Bool) (view : View) → (if b then Some view else None) ≡ Some (Promise p) → (b ≡ true) × (view ≡ Promise p)
bound_view p true view h = (refl, only view (Promise p) h)
bound_view p false view h = absurd (let no : ⊥ = cc in no)

abbrev IsFrom : ℕ → Past → DecodedRecord → Type 0
IsFrom p es e = (e ≡ Vow p) ⊎ ((r : ℕ) × (view_of_reference es r ≡ Some (Promise p)))

described_from : (p k c : ℕ) (rs : List ℕ) (m : RpcMessage) (es : Past) (d : Descriptor) → descriptor_view (view_of_reference es) es (Wire false k c rs m) d ≡ Some (Promise p) →
    (r : ℕ) × (view_of_reference es r ≡ Some (Promise p))
described_from p k c rs m es (SenderHosted n) h =
    let b = then_is (view_given (view_of_reference es) false) (birth (id k false n) (Wire false k c rs m ∷ es)) (Promise p) h in absurd (let no : ⊥ = let e = b.2 in cc in no)
described_from p k c rs m es (SenderPromise n) h =
    let b = then_is (view_given (view_of_reference es) false) (birth (id k false n) (Wire false k c rs m ∷ es)) (Promise p) h in absurd (let no : ⊥ = let e = b.2 in cc in no)
described_from p k c rs m es (ReceiverHosted n) h =
    let b = then_is (view_given (view_of_reference es) true) (birth (id k true n) es) (Promise p) h in
    let n = then_is (λ n. view_of_reference es n.0) (find (λ n. n.1 == b.0.place) (placed_references b.0.from.event)) (Promise p) b.2 in
    (n.0.0, n.2)
described_from p k c rs m es (ReceiverAnswer q path) h =
    let c = mapped_is (λ call. FieldOf call path) (call_of (id k false q) es) (Promise p) h in absurd (let no : ⊥ = let e = c.2 in cc in no)
described_from p k c rs m es d h = absurd (let no : ⊥ = cc in no)

bound_from : (p : ℕ) (es : Past) (e : DecodedRecord) (r : ℕ) → binds (view_of_reference es) es e r ≡ Some (Promise p) → IsFrom p es e
bound_from p es (Host q object) r h = absurd (let t = bound_view p (q == r) (Object object) h in let no : ⊥ = let e = t.1 in cc in no)
bound_from p es (Vow q) r h =
    let t = bound_view p (q == r) (Promise q) h in
    let same : q ≡ p = let e = t.1 in cc in inl (ap (λ q. Vow q) same)
bound_from p es (Field q c path) r h = absurd (let t = bound_view p (q == r) (FieldOf c path) h in let no : ⊥ = let e = t.1 in cc in no)
bound_from p es (Wire false k c rs m) r h =
    let e = Wire false k c rs m in
    let n = then_is (λ n. described_at (view_of_reference es) es e n.1) (find (λ n. n.0 == r) (placed_references e)) (Promise p) h in
    let d = then_is (descriptor_view (view_of_reference es) es e) (slice_get (descriptors e) n.0.1) (Promise p) n.2 in
    inr (described_from p k c rs m es d.0 d.2)
bound_from p es e r h = absurd (let no : ⊥ = cc in no)

vow_said : (v p : ℕ) (es : Past) (steps : List Step) (e : DecodedRecord) (s : Step) → Says v es steps e s → e ≡ Vow p → vows v p s ≡ true
vow_said v p es steps e s says is =
    let said_so : Says v es steps (Vow p) s = subst (λ e. Says v es steps e s) is says in
    subst (λ s. vows v p s ≡ true) (only (step.Vow v p) s said_so) (and_from (v == v) (p == p) (eq-eqb v v refl) (eq-eqb p p refl))

pub vowed : (v p : ℕ) (es : Past) (steps : List Step) → PairsOff v es steps → (r : ℕ) → view_of_reference es r ≡ Some (Promise p) → list_any (vows v p) steps ≡ true
vowed v p [] steps part r h = absurd (let no : ⊥ = cc in no)
vowed v p (e ∷ es) [] part r h = absurd part
vowed v p (e ∷ es) (s ∷ steps) part r h = at (binds (view_of_reference es) es e r) refl h (vowed v p es steps part.1)
  where
    at : (o : Option View) → binds (view_of_reference es) es e r ≡ o → option_or o (view_of_reference es r) ≡ Some (Promise p) →
        ((r : ℕ) → view_of_reference es r ≡ Some (Promise p) → list_any (vows v p) steps ≡ true) → (vows v p s || list_any (vows v p) steps) ≡ true
    at None n h rest = or_right (vows v p s) (list_any (vows v p) steps) (rest r h)
    at (Some x) n h rest = elim (bound_from p es e r (n ∙ h)) [
      | inl is ↦ or_left (vows v p s) (list_any (vows v p) steps) (vow_said v p es steps e s part.0 is)
      | inr there ↦ or_right (vows v p s) (list_any (vows v p) steps) (rest there.0 there.1)
    ]

-- a step ends a promise only where the record does
promise_tested : (p q : ℕ) (o : Option View) → promise_in o ≡ Some q → (q == p) ≡ true → is_promise p o ≡ true
promise_tested p q (Some (Promise r)) h e = ap (λ r. r == p) (only r q h) ∙ e
promise_tested p q (Some view) h e = absurd (let no : ⊥ = cc in no)
promise_tested p q None h e = absurd (let no : ⊥ = cc in no)

unturned : (b : Bool) (n : Next) → (if b then Some n else None) ≡ None → b ≡ true → ⊥
unturned true n h e = let no : ⊥ = cc in no
unturned false n h e = let no : ⊥ = cc in no

ended_only : (v p q : ℕ) (o : Option View) (n : Next) → promise_in o ≡ Some q → (if is_promise p o then Some n else None) ≡ None → ((v == v) && (q == p)) ≡ false
ended_only v p q o n there h = and_right (v == v) (q == p) (false_from_ne_true (q == p) (λ e. unturned (is_promise p o) n h (promise_tested p q o there e)))

ends_said : (v p : ℕ) (es : Past) (steps : List Step) (e : DecodedRecord) (s : Step) → Says v es steps e s → keeps p es e ≡ None → ends v p s ≡ false
ends_said v p es steps (Fulfil r to) s says h =
    let f = form v es steps (Fulfil r to) s says in
    subst (λ s. ends v p s ≡ false) f.3 (ended_only v p f.0 (view_of_reference es r) (on_to (view_of_reference es to)) f.2 h)
ends_said v p es steps (Break r) s says h =
    let f = form v es steps (Break r) s says in
    subst (λ s. ends v p s ≡ false) f.2 (ended_only v p f.0 (view_of_reference es r) stops f.1 h)
ends_said v p es steps (Host r object) s says h = subst (λ s. ends v p s ≡ false) (form v es steps (Host r object) s says) refl
ends_said v p es steps (Vow r) s says h = subst (λ s. ends v p s ≡ false) (form v es steps (Vow r) s says) refl
ends_said v p es steps (Make c r interface method) s says h = subst (λ s. ends v p s ≡ false) (form v es steps (Make c r interface method) s says).1 refl
ends_said v p es steps (Field r c path) s says h = subst (λ s. ends v p s ≡ false) (form v es steps (Field r c path) s says).1 refl
ends_said v p es steps (Deliver c object) s says h = subst (λ s. ends v p s ≡ false) (form v es steps (Deliver c object) s says).2 refl
ends_said v p es steps (Answer c results) s says h = subst (λ s. ends v p s ≡ false) (form v es steps (Answer c results) s says).4 refl
ends_said v p es steps (AnswerBy c by) s says h = subst (λ s. ends v p s ≡ false) (form v es steps (AnswerBy c by) s says).4 refl
ends_said v p es steps (Fault c) s says h = subst (λ s. ends v p s ≡ false) (form v es steps (Fault c) s says).2 refl
ends_said v p es steps (Wire true k c rs m) s says h = subst (λ s. ends v p s ≡ false) (form v es steps (Wire true k c rs m) s says).2 refl
ends_said v p es steps (Wire false k c rs m) s says h = subst (λ s. ends v p s ≡ false) (sym says.step) refl

keeps_moves : (p : ℕ) (es : Past) (e : DecodedRecord) → keeps p es e ≡ Some stays → ⊥
keeps_moves p es (Fulfil r to) h = at (is_promise p (view_of_reference es r)) (view_of_reference es to) h
  where
    at : (b : Bool) (o : Option View) → (if b then Some (on_to o) else None) ≡ Some stays → ⊥
    at true None h = let no : ⊥ = cc in no
    at true (Some v) h = let no : ⊥ = cc in no
    at false o h = let no : ⊥ = cc in no
keeps_moves p es (Break r) h = at (is_promise p (view_of_reference es r)) h
  where
    at : (b : Bool) → (if b then Some stops else None) ≡ Some stays → ⊥
    at true h = let no : ⊥ = cc in no
    at false h = let no : ⊥ = cc in no
keeps_moves p es e h = let no : ⊥ = cc in no

unkept : (p : ℕ) (es : Past) → next es (Promise p) ≡ stays → Each (λ before e. keeps p before e ≡ None) es
unkept p [] h = tt
unkept p (e ∷ es) h = at (keeps p es e) refl h (unkept p es)
  where
    at : (o : Option Next) → keeps p es e ≡ o → unwrap_or (option_or o (last_answer (turn (Promise p)) es)) stays ≡ stays → (next es (Promise p) ≡ stays → Each (λ before e. keeps p before e ≡ None) es) →
        Each (λ before e. keeps p before e ≡ None) (e ∷ es)
    at None n h rest = (n, rest h)
    at (Some x) n h rest = absurd (keeps_moves p es e (n ∙ ap (λ x. Some x) h))

ends_own : (v p : ℕ) (s : Step) → ends v p s ≡ true → (vat_of s == v) ≡ true
ends_own v p (step.Fulfil w q to) e = (and_parts (w == v) (q == p) e).0
ends_own v p (step.Break w q) e = (and_parts (w == v) (q == p) e).0
ends_own v p s e = absurd (let no : ⊥ = cc in no)

promise_view : (p : ℕ) (o : Option View) → promise_in o ≡ Some p → o ≡ Some (Promise p)
promise_view p (Some (Promise q)) h = ap (λ q. Some (Promise q)) (only q p h)
promise_view p (Some view) h = absurd (let no : ⊥ = cc in no)
promise_view p None h = absurd (let no : ⊥ = cc in no)

may_end : (v : ℕ) (es : Past) (steps before : List Step) → IsWithin v es steps before → (r p : ℕ) → promise_in (view_of_reference es r) ≡ Some p → IsUnkept es (view_of_reference es r) → MayEnd before v p
may_end v es steps before w r p there unkept_there =
    let view = promise_view p (view_of_reference es r) there in
    let stays_so : next es (Promise p) ≡ stays = subst (IsUnkept es) view unkept_there in
    let own : Step → Bool = λ s. vat_of s == v in (
      some_in_run own (vows v p) before (ap (list_any (vows v p)) w.own ∙ vowed v p es steps w.paired r view),
      none_by_others IsLegal own (ends v p) (λ b s legal e. ends_own v p s e) before w.legal
          (ap (list_any (ends v p)) w.own ∙ none_said v (ends v p) (λ es e. keeps p es e ≡ None) (ends_said v p) es steps w.paired (unkept p es stays_so)),
    )

-- ---- calls

-- the message that a Bootstrap alone says
abbrev is_boot : Message → Bool
is_boot (message.Boot c) = true
is_boot m = false

abbrev opens_boot : RpcMessage → Bool
opens_boot (Bootstrap q) = true
opens_boot m = false

call_said : (interface method : ℕ) (caps : Option (List Cap)) (name : Option Name) (target : Option Cap) (m : Message) → say_call interface method caps name target ≡ Some m → is_boot m ≡ false
call_said interface method (Some caps) (Some name) (Some target) m h = ap is_boot (sym (only (message.Call name target interface method caps) m h))
call_said interface method None name target m h = absurd (let no : ⊥ = cc in no)
call_said interface method (Some caps) None target m h = absurd (let no : ⊥ = cc in no)
call_said interface method (Some caps) (Some name) None m h = absurd (let no : ⊥ = cc in no)

return_said : (late : Bool) (fields : List (List ℕ × ℕ)) (name : Name) (caps : Option (List Cap)) (m : Message) → say_return late fields name caps ≡ Some m → is_boot m ≡ false
return_said true fields name caps m h = ap is_boot (sym (only (message.Late name) m h))
return_said false fields name None m h = absurd (let no : ⊥ = cc in no)
return_said false fields name (Some caps) m h = ap is_boot (sym (only _ m h))

taken_said : (late : Bool) (name : Name) (by : Option Name) (m : Message) → say_taken late name by ≡ Some m → is_boot m ≡ false
taken_said true name by m h = ap is_boot (sym (only (message.Late name) m h))
taken_said false name by m h = ap is_boot (sym (mapped_is (λ by. message.Taken name by) by m h).2)

resolve_said : (promise : Cap) (caps : List Cap) → is_boot (say_resolve promise caps) ≡ false
resolve_said promise [] = refl
resolve_said promise (cap.Nothing ∷ rest) = refl
resolve_said promise (c ∷ rest) = refl

no_boot_said : (names : Naming) (es : Past) (sent : Bool) (k c : ℕ) (rs : List ℕ) (m : RpcMessage) (M : Message) → opens_boot m ≡ false → message_of_record names es (Wire sent k c rs m) ≡ Some M → is_boot M ≡ false
no_boot_said names es sent k c rs (Bootstrap q) M other h = absurd (let no : ⊥ = cc in no)
no_boot_said names es sent k c rs (Call head target params) M other h =
    let e = Wire sent k c rs (Call head target params) in
    call_said head.interface head.method (caps_named names es e) (names.call c) (option_and_then names.cap (view_of_target es e)) M h
no_boot_said names es sent k c rs (Return head (Results payload)) M other h =
    let e = Wire sent k c rs (Return head (Results payload)) in
    let name = then_is (λ name. say_return (is_late es e) payload.fields name (caps_named names es e)) (call_answered names es k sent head.answer) M h in
    return_said (is_late es e) payload.fields name.0 (caps_named names es e) M name.2
no_boot_said names es sent k c rs (Return head Exception) M other h = ap is_boot (sym (mapped_is message.Failed (call_answered names es k sent head.answer) M h).2)
no_boot_said names es sent k c rs (Return head Canceled) M other h = ap is_boot (sym (mapped_is message.Failed (call_answered names es k sent head.answer) M h).2)
no_boot_said names es sent k c rs (Return head Elsewhere) M other h = ap is_boot (sym (mapped_is message.Elsewhere (call_answered names es k sent head.answer) M h).2)
no_boot_said names es sent k c rs (Return head (TakeFrom n)) M other h =
    let late = sent && is_late es (Wire sent k c rs (Return head (TakeFrom n))) in
    let by = option_and_then names.call (call_of (id k sent n) es) in
    let name = then_is (λ name. say_taken late name by) (call_answered names es k sent head.answer) M h in
    taken_said late name.0 by M name.2
no_boot_said names es sent k c rs (Resolve n resolution) M other h =
    let e = Wire sent k c rs (Resolve n resolution) in
    let promise = then_is (λ promise. option_map (say_resolve promise) (caps_named names es e)) (promise_named names es k sent n) M h in
    let caps = mapped_is (say_resolve promise.0) (caps_named names es e) M promise.2 in
    ap is_boot (sym caps.2) ∙ resolve_said promise.0 caps.0
no_boot_said names es sent k c rs (Finish q release) M other h = ap is_boot (sym (only _ M h))
no_boot_said names es sent k c rs (Release n count) M other h = ap is_boot (sym (only _ M h))
no_boot_said names es sent k c rs (Disembargo n loopback target) M other h = ap is_boot (sym (only _ M h))
no_boot_said names es sent k c rs Abort M other h = ap is_boot (sym (only _ M h))

-- a record begins only the calls that it binds
boot_name : (v : ℕ) (es : Past) (steps : List Step) (k d : ℕ) (rs : List ℕ) (q : ℕ) (s : Step) (name : Name) → call_named v (Wire true k d rs (Bootstrap q) ∷ es) (s ∷ steps) d ≡ Some name → call v d ≡ name
boot_name v es steps k d rs q s name h =
    let first : call_named v (Wire true k d rs (Bootstrap q) ∷ es) (s ∷ steps) d ≡ Some (call v d) = ap (λ b. option_or (if b then Some (call v d) else None) (call_named v es steps d)) (eq-eqb d d refl) in
    only (call v d) name (sym first ∙ h)

pub boot_said : (v : ℕ) (es : Past) (steps : List Step) (k d : ℕ) (rs : List ℕ) (q : ℕ) (s : Step) → Says v es steps (Wire true k d rs (Bootstrap q)) s → step.Send v k (message.Boot (call v d)) ≡ s
boot_said v es steps k d rs q s says =
    let f = form v es steps (Wire true k d rs (Bootstrap q)) s says in
    let name = mapped_is message.Boot (call_named v (Wire true k d rs (Bootstrap q) ∷ es) (s ∷ steps) d) f.0 f.1 in
    ap (λ n. step.Send v k (message.Boot n)) (boot_name v es steps k d rs q s name.0 name.1) ∙ ap (λ M. step.Send v k M) name.2 ∙ f.2

other_call : (v d c : ℕ) → ((d == c) || false) ≡ false → is_same_call (call v d) (call v c) ≡ false
other_call v d c h = and_right (v == v) (d == c) (or_parts (d == c) false h).0

no_boot_begins : (c : Name) (v k : ℕ) (M : Message) → is_boot M ≡ false → begins_call c (step.Send v k M) ≡ false
no_boot_begins c v k (message.Boot d) h = absurd (let no : ⊥ = cc in no)
no_boot_begins c v k M h = refl

begins_said : (v c : ℕ) (es : Past) (steps : List Step) (e : DecodedRecord) (s : Step) → Says v es steps e s → contains c (new_calls e) ≡ false → begins_call (call v c) s ≡ false
begins_said v c es steps (Make d r interface method) s says h = subst (λ s. begins_call (call v c) s ≡ false) (form v es steps (Make d r interface method) s says).1 (other_call v d c h)
begins_said v c es steps (Wire true k d rs (Bootstrap q)) s says h = subst (λ s. begins_call (call v c) s ≡ false) (boot_said v es steps k d rs q s says) (other_call v d c h)
begins_said v c es steps (Wire true k d rs m) s says h =
    let e = Wire true k d rs m in
    let f = form v es steps e s says in
    subst (λ s. begins_call (call v c) s ≡ false) f.2 (no_boot_begins (call v c) v k f.0 (no_boot_said (naming v (e ∷ es) (s ∷ steps)) es true k d rs m f.0 refl f.1))
begins_said v c es steps (Wire false k d rs m) s says h = subst (λ s. begins_call (call v c) s ≡ false) (sym says.step) refl
begins_said v c es steps (Host r object) s says h = subst (λ s. begins_call (call v c) s ≡ false) (form v es steps (Host r object) s says) refl
begins_said v c es steps (Vow r) s says h = subst (λ s. begins_call (call v c) s ≡ false) (form v es steps (Vow r) s says) refl
begins_said v c es steps (Fulfil r to) s says h = subst (λ s. begins_call (call v c) s ≡ false) (form v es steps (Fulfil r to) s says).3 refl
begins_said v c es steps (Break r) s says h = subst (λ s. begins_call (call v c) s ≡ false) (form v es steps (Break r) s says).2 refl
begins_said v c es steps (Field r d path) s says h = subst (λ s. begins_call (call v c) s ≡ false) (form v es steps (Field r d path) s says).1 refl
begins_said v c es steps (Deliver d object) s says h = subst (λ s. begins_call (call v c) s ≡ false) (form v es steps (Deliver d object) s says).2 refl
begins_said v c es steps (Answer d results) s says h = subst (λ s. begins_call (call v c) s ≡ false) (form v es steps (Answer d results) s says).4 refl
begins_said v c es steps (AnswerBy d by) s says h = subst (λ s. begins_call (call v c) s ≡ false) (form v es steps (AnswerBy d by) s says).4 refl
begins_said v c es steps (Fault d) s says h = subst (λ s. begins_call (call v c) s ≡ false) (form v es steps (Fault d) s says).2 refl

-- another vat begins no call of this vat's numbers
begins_own : (v c : ℕ) (before : List Step) (s : Step) → IsLegal before s → begins_call (call v c) s ≡ true → (vat_of s == v) ≡ true
begins_own v c before (step.Make w n to r interface method) legal e = (and_parts (w == v) (n == c) e).0
begins_own v c before (step.Send w k (message.Boot d)) legal e = ap (λ x. x == v) (sym legal.1.0) ∙ (and_parts (d.maker == v) (d.number == c) e).0
begins_own v c before (step.Send w k m) legal e = absurd (let no : ⊥ = cc in no)
begins_own v c before s legal e = absurd (let no : ⊥ = cc in no)

each_unbound : (c : ℕ) (es : Past) → is_bound_call es c ≡ false → Each (λ before e. contains c (new_calls e) ≡ false) es
each_unbound c [] h = tt
each_unbound c (e ∷ es) h = let parts = or_parts (contains c (new_calls e)) (is_bound_call es c) h in (parts.0, each_unbound c es parts.1)

unbound_one : (b : Bool) → (not b && true) ≡ true → b ≡ false
unbound_one false h = refl
unbound_one true h = absurd (let no : ⊥ = cc in no)

is_new : (v : ℕ) (es : Past) (steps before : List Step) → IsWithin v es steps before → (c : ℕ) → (not (is_bound_call es c) && true) ≡ true → IsNew before (call v c)
is_new v es steps before w c unbound =
    let own : Step → Bool = λ s. vat_of s == v in
    none_by_others IsLegal own (begins_call (call v c)) (begins_own v c) before w.legal
    (ap (list_any (begins_call (call v c))) w.own
    ∙ none_said v (begins_call (call v c)) (λ es e. contains c (new_calls e) ≡ false) (begins_said v c) es steps w.paired (each_unbound c es (unbound_one (is_bound_call es c) unbound)))

-- ---- together

pub own_may_come : (v : ℕ) (es : Past) (steps before : List Step) (e : DecodedRecord) (s : Step) → IsWithin v es steps before → IsGood es e → is_own_making e ≡ true → Says v es steps e s → MayCome before s
own_may_come v es steps before (Host r object) s w good own says = subst (MayCome before) (form v es steps (Host r object) s says) tt
own_may_come v es steps before (Vow r) s w good own says = subst (MayCome before) (form v es steps (Vow r) s says) tt
own_may_come v es steps before (Fulfil r to) s w good own says =
    let f = form v es steps (Fulfil r to) s says in subst (MayCome before) f.3 (may_end v es steps before w r f.0 f.2 (good rule.Vow))
own_may_come v es steps before (Break r) s w good own says =
    let f = form v es steps (Break r) s says in subst (MayCome before) f.2 (may_end v es steps before w r f.0 f.1 (good rule.Vow))
own_may_come v es steps before (Make c r interface method) s w good own says =
    let refers : Refers es (Make c r interface method) = good rule.Ref in
    subst (MayCome before) (form v es steps (Make c r interface method) s says).1 (is_new v es steps before w c refers.unused_call)
own_may_come v es steps before (Field r c path) s w good own says = subst (MayCome before) (form v es steps (Field r c path) s says).1 tt
own_may_come v es steps before (Wire true k c rs (Bootstrap q)) s w good own says =
    let refers : Refers es (Wire true k c rs (Bootstrap q)) = good rule.Ref in
    subst (MayCome before) (boot_said v es steps k c rs q s says) (refl, is_new v es steps before w c refers.unused_call)
own_may_come v es steps before (Wire true k c rs (Finish q release)) s w good own says = let f = form v es steps (Wire true k c rs (Finish q release)) s says in subst (MayCome before) (ap (step.Send v k) (only _ f.0 f.1) ∙ f.2) tt
own_may_come v es steps before (Wire true k c rs (Release n count)) s w good own says = let f = form v es steps (Wire true k c rs (Release n count)) s says in subst (MayCome before) (ap (step.Send v k) (only _ f.0 f.1) ∙ f.2) tt
own_may_come v es steps before (Wire true k c rs (Disembargo n loopback target)) s w good own says =
    let f = form v es steps (Wire true k c rs (Disembargo n loopback target)) s says in subst (MayCome before) (ap (step.Send v k) (only _ f.0 f.1) ∙ f.2) tt
own_may_come v es steps before (Wire true k c rs Abort) s w good own says = let f = form v es steps (Wire true k c rs Abort) s says in subst (MayCome before) (ap (step.Send v k) (only _ f.0 f.1) ∙ f.2) tt
own_may_come v es steps before e s w good own says = absurd (let no : ⊥ = cc in no)
