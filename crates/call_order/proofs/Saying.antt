-- The call of a record, and that of the step which the record says.
use Rattle.std.proofs.Common.{◌≡◌, refl, sym, ◌∙◌, ap, subst, ℕ, ◌==◌, List, [], ◌∷◌, Bool, true, false, Option, Some, None, if◌then◌else◌, option_and_then, option_map, Result, Ok}
use Rattle.std.specs.Bool.{beq}
use Rattle.std.proofs.lemmas.Bool.{false≢true}
use Rattle.call_trace.specs.Naming.{Naming, naming}
use Rattle.call_trace.specs.Part.{resolves_released, heard_late, Says}
use Rattle.call_trace.specs.Said.{message_of_record, say_call, say_return, say_taken, say_resolve, caps_named, promise_named, call_answered, caps_at_paths}
use Rattle.call_trace.specs.Types.{Results, Exception, Canceled, Elsewhere, TakeFrom, Outcome, RpcMessage, Bootstrap, Call, Return, ReturnHead, Finish, Resolve, Release, Disembargo, Abort, DecodedRecord, Host, Vow, Fulfil, Break, Make, Field, Deliver, Answer, AnswerBy, Fault, Wire, Name, Cap, Message, Step}
use Rattle.call_trace.proofs.AsSent.{read, heard, says_heard}
use Rattle.call_trace.proofs.Naming.{mapped_is, then_is}
use Rattle.call_trace.proofs.Reading.{with_is}
use Rattle.run_model.specs.Has.{call_in_message}
use Rattle.run_model.specs.declared.cap.Cap.TheVariants as cap
use Rattle.run_model.specs.declared.message.Message.TheVariants as message
use Rattle.run_model.specs.declared.plain.Plain.TheVariants as plain
use Rattle.run_model.specs.declared.step.Step.TheVariants as step
use Rattle.vat_log.specs.declared.body.Body.{Body}
use Rattle.vat_log.specs.declared.body.Body.TheVariants as body
use Rattle.vat_rules.specs.Events.{Reader, event_of}
use Rattle.vat_rules.specs.declared.outcome.Why.{Why}
use Rattle.decoded_records.specs.Bindings.{notes_call}
use Rattle.decoded_records.specs.Past.{Past}
use Rattle.decoded_records.specs.Questions.{is_late}
use Rattle.decoded_records.specs.Views.{view_of_target}
use Rattle.call_order.specs.Glue.Deeds.{passed, deed_of}
use Rattle.call_order.specs.declared.deeds.Deed.{Deed}
use Rattle.call_order.specs.declared.deeds.Deed.TheVariants as deed

-- ---- what a record does, with its message read

abbrev pub deed_in : DecodedRecord → Deed
deed_in (Make c r interface method) = deed.Make c r
deed_in (Deliver c object) = deed.Deliver c
deed_in (Answer c results) = deed.End c
deed_in (AnswerBy c by) = deed.End c
deed_in (Fault c) = deed.End c
deed_in (Host r object) = deed.Other
deed_in (Vow r) = deed.Other
deed_in (Fulfil r to) = deed.Other
deed_in (Break r) = deed.Other
deed_in (Field r c path) = deed.Other
deed_in (Wire true k c rs (Bootstrap q)) = deed.Send k c
deed_in (Wire true k c rs (Call head target params)) = deed.Send k c
deed_in (Wire false k c rs (Bootstrap q)) = deed.Receive k c
deed_in (Wire false k c rs (Call head target params)) = deed.Receive k c
deed_in (Wire sent k c rs (Return head outcome)) = deed.Other
deed_in (Wire sent k c rs (Finish q release)) = deed.Other
deed_in (Wire sent k c rs (Resolve n resolution)) = deed.Other
deed_in (Wire sent k c rs (Release n count)) = deed.Other
deed_in (Wire sent k c rs (Disembargo n loopback target)) = deed.Other
deed_in (Wire sent k c rs Abort) = deed.Other

noted_some : (d : Deed) (c : ℕ) → beq (c == 0) false ≡ true → passed d c ≡ d
noted_some d c h = at (c == 0) h
  where
    at : (b : Bool) → beq b false ≡ true → (if b then deed.Other else d) ≡ d
    at true h = absurd (false≢true h)
    at false h = refl

noted_none : (d : Deed) (c : ℕ) → beq (c == 0) true ≡ true → passed d c ≡ deed.Other
noted_none d c h = at (c == 0) h
  where
    at : (b : Bool) → beq b true ≡ true → (if b then deed.Other else d) ≡ deed.Other
    at true h = refl
    at false h = absurd (false≢true h)

sent_deed : (k c : ℕ) (rs : List ℕ) (m : RpcMessage) → notes_call (Wire true k c rs m) ≡ true → passed (deed.Send k c) c ≡ deed_in (Wire true k c rs m)
sent_deed k c rs (Bootstrap q) noted = noted_some (deed.Send k c) c noted
sent_deed k c rs (Call head target params) noted = noted_some (deed.Send k c) c noted
sent_deed k c rs (Return head outcome) noted = noted_none (deed.Send k c) c noted
sent_deed k c rs (Finish q release) noted = noted_none (deed.Send k c) c noted
sent_deed k c rs (Resolve n resolution) noted = noted_none (deed.Send k c) c noted
sent_deed k c rs (Release n count) noted = noted_none (deed.Send k c) c noted
sent_deed k c rs (Disembargo n loopback target) noted = noted_none (deed.Send k c) c noted
sent_deed k c rs Abort noted = noted_none (deed.Send k c) c noted

received_deed : (k c : ℕ) (rs : List ℕ) (m : RpcMessage) → notes_call (Wire false k c rs m) ≡ true → passed (deed.Receive k c) c ≡ deed_in (Wire false k c rs m)
received_deed k c rs (Bootstrap q) noted = noted_some (deed.Receive k c) c noted
received_deed k c rs (Call head target params) noted = noted_some (deed.Receive k c) c noted
received_deed k c rs (Return head outcome) noted = noted_none (deed.Receive k c) c noted
received_deed k c rs (Finish q release) noted = noted_none (deed.Receive k c) c noted
received_deed k c rs (Resolve n resolution) noted = noted_none (deed.Receive k c) c noted
received_deed k c rs (Release n count) noted = noted_none (deed.Receive k c) c noted
received_deed k c rs (Disembargo n loopback target) noted = noted_none (deed.Receive k c) c noted
received_deed k c rs Abort noted = noted_none (deed.Receive k c) c noted

ok_same : (x y : DecodedRecord) → ◌≡◌ {A = Result DecodedRecord Why} (Ok x) (Ok y) → x ≡ y
ok_same x y h = cc

-- a stored record does what the record does that is read of it
pub deed_is : (read : Reader) (b : Body) (e : DecodedRecord) → event_of read b ≡ Ok e → notes_call e ≡ true → deed_of b ≡ deed_in e
deed_is read (body.Host r object) e h noted = ap deed_in (ok_same (Host r object) e h)
deed_is read (body.Vow r) e h noted = ap deed_in (ok_same (Vow r) e h)
deed_is read (body.Fulfil r to) e h noted = ap deed_in (ok_same (Fulfil r to) e h)
deed_is read (body.Break r) e h noted = ap deed_in (ok_same (Break r) e h)
deed_is read (body.Make c r interface method) e h noted = ap deed_in (ok_same (Make c r interface method) e h)
deed_is read (body.Field r c path) e h noted = ap deed_in (ok_same (Field r c path) e h)
deed_is read (body.Deliver c object) e h noted = ap deed_in (ok_same (Deliver c object) e h)
deed_is read (body.Answer c results) e h noted = ap deed_in (ok_same (Answer c results) e h)
deed_is read (body.AnswerBy c by) e h noted = ap deed_in (ok_same (AnswerBy c by) e h)
deed_is read (body.Fault c) e h noted = ap deed_in (ok_same (Fault c) e h)
deed_is read (body.Send k c rs frame) e h noted =
    let w = with_is (Wire true k c rs) (read frame) e h in
    sent_deed k c rs w.0 (subst (λ x. notes_call x ≡ true) w.2 noted) ∙ ap deed_in (sym w.2)
deed_is read (body.Receive k c rs frame) e h noted =
    let w = with_is (Wire false k c rs) (read frame) e h in
    received_deed k c rs w.0 (subst (λ x. notes_call x ≡ true) w.2 noted) ∙ ap deed_in (sym w.2)

-- ---- messages in which no call goes

some_same : {A : Type 0} (x y : A) → ◌≡◌ {A = Option A} (Some x) (Some y) → x ≡ y
some_same x y h = cc

mapped_none : {A : Type 0} (f : A → Message) → ((x : A) → call_in_message (f x) ≡ None) → (o : Option A) (m : Message) → option_map f o ≡ Some m → call_in_message m ≡ None
mapped_none f none o m h = let x = mapped_is f o m h in ap call_in_message (sym x.2) ∙ none x.0

then_none : {A : Type 0} (f : A → Option Message) → ((x : A) (m : Message) → f x ≡ Some m → call_in_message m ≡ None) → (o : Option A) (m : Message) → option_and_then f o ≡ Some m → call_in_message m ≡ None
then_none f none o m h = let x = then_is f o m h in none x.0 m x.2

said_is : (m : Message) → call_in_message m ≡ None → (said : Message) → ◌≡◌ {A = Option Message} (Some m) (Some said) → call_in_message said ≡ None
said_is m none said h = ap call_in_message (sym (some_same m said h)) ∙ none

return_none : (late : Bool) (fields : List (List ℕ × ℕ)) (caps : Option (List Cap)) (name : Name) (m : Message) → say_return late fields name caps ≡ Some m → call_in_message m ≡ None
return_none true fields caps name m h = said_is (message.Late name) refl m h
return_none false fields caps name m h = mapped_none (λ caps. message.Return name (caps_at_paths caps fields) caps) (λ caps. refl) caps m h

taken_none : (late : Bool) (by : Option Name) (name : Name) (m : Message) → say_taken late name by ≡ Some m → call_in_message m ≡ None
taken_none true by name m h = said_is (message.Late name) refl m h
taken_none false by name m h = mapped_none (λ by. message.Taken name by) (λ by. refl) by m h

resolve_none : (promise : Cap) (caps : List Cap) → call_in_message (say_resolve promise caps) ≡ None
resolve_none promise [] = refl
resolve_none promise (cap.Nothing ∷ rest) = refl
resolve_none promise (cap.Object v object ∷ rest) = refl
resolve_none promise (cap.Promise v object ∷ rest) = refl
resolve_none promise (cap.Field c path ∷ rest) = refl

-- a message of these is neither a Bootstrap nor a Call
abbrev pub has_no_call : RpcMessage → Bool
has_no_call (Bootstrap q) = false
has_no_call (Call head target params) = false
has_no_call (Return head outcome) = true
has_no_call (Finish q release) = true
has_no_call (Resolve n resolution) = true
has_no_call (Release n count) = true
has_no_call (Disembargo n loopback target) = true
has_no_call Abort = true

module _ (names : Naming) (es : Past) (sent : Bool) (k c : ℕ) (rs : List ℕ) where
  returned_none : (head : ReturnHead) (outcome : Outcome) (said : Message) → message_of_record names es (Wire sent k c rs (Return head outcome)) ≡ Some said → call_in_message said ≡ None
  returned_none head (Results payload) said h =
      let e = Wire sent k c rs (Return head (Results payload)) in
      then_none (λ name. say_return (is_late es e) payload.fields name (caps_named names es e)) (return_none (is_late es e) payload.fields (caps_named names es e)) (call_answered names es k sent head.answer) said h
  returned_none head Exception said h = mapped_none message.Failed (λ c. refl) (call_answered names es k sent head.answer) said h
  returned_none head Canceled said h = mapped_none message.Failed (λ c. refl) (call_answered names es k sent head.answer) said h
  returned_none head Elsewhere said h = mapped_none message.Elsewhere (λ c. refl) (call_answered names es k sent head.answer) said h
  returned_none head (TakeFrom n) said h =
      let e = Wire sent k c rs (Return head (TakeFrom n)) in
      then_none _ (λ name m. taken_none _ _ name m) (call_answered names es k sent head.answer) said h

  pub said_none : (m : RpcMessage) (said : Message) → has_no_call m ≡ true → message_of_record names es (Wire sent k c rs m) ≡ Some said → call_in_message said ≡ None
  said_none (Bootstrap q) said none h = absurd (false≢true none)
  said_none (Call head target params) said none h = absurd (false≢true none)
  said_none (Return head outcome) said none h = returned_none head outcome said h
  said_none (Finish q release) said none h = said_is (message.Plain plain.Finish) refl said h
  said_none (Resolve n resolution) said none h =
      let e = Wire sent k c rs (Resolve n resolution) in
      then_none (λ promise. option_map (say_resolve promise) (caps_named names es e)) (λ promise m. mapped_none (say_resolve promise) (resolve_none promise) (caps_named names es e) m) (promise_named names es k sent n) said h
  said_none (Release n count) said none h = said_is (message.Plain plain.Release) refl said h
  said_none (Disembargo n loopback target) said none h = said_is (message.Plain plain.Disembargo) refl said h
  said_none Abort said none h = said_is (message.Plain plain.Abort) refl said h

-- ---- messages in which a call goes

-- a record names its call, and the message that it says is that call
abbrev pub IsCallSaid : Naming → ℕ → Message → Type 0
IsCallSaid names c said = (name : Name) × (names.call c ≡ Some name) × (call_in_message said ≡ Some name)

call_said : (names : Naming) (c interface method : ℕ) (caps : Option (List Cap)) (name : Option Name) (target : Option Cap) (said : Message) → names.call c ≡ name → say_call interface method caps name target ≡ Some said → IsCallSaid names c said
call_said names c interface method (Some caps) (Some name) (Some target) said known h = (name, known, ap call_in_message (sym (some_same (message.Call name target interface method caps) said h)))
call_said names c interface method None name target said known h = absurd (let no : ⊥ = cc in no)
call_said names c interface method (Some caps) None target said known h = absurd (let no : ⊥ = cc in no)
call_said names c interface method (Some caps) (Some name) None said known h = absurd (let no : ⊥ = cc in no)

pub said_call : (names : Naming) (es : Past) (sent : Bool) (k c : ℕ) (rs : List ℕ) (m : RpcMessage) (said : Message) → has_no_call m ≡ false → message_of_record names es (Wire sent k c rs m) ≡ Some said → IsCallSaid names c said
said_call names es sent k c rs (Bootstrap q) said call h = let x = mapped_is message.Boot (names.call c) said h in (x.0, x.1, ap call_in_message (sym x.2))
said_call names es sent k c rs (Call head target params) said call h =
    let e = Wire sent k c rs (Call head target params) in
    call_said names c head.interface head.method (caps_named names es e) (names.call c) (option_and_then names.cap (view_of_target es e)) said refl h
said_call names es sent k c rs (Return head outcome) said call h = absurd (false≢true (sym call))
said_call names es sent k c rs (Finish q release) said call h = absurd (false≢true (sym call))
said_call names es sent k c rs (Resolve n resolution) said call h = absurd (false≢true (sym call))
said_call names es sent k c rs (Release n count) said call h = absurd (false≢true (sym call))
said_call names es sent k c rs (Disembargo n loopback target) said call h = absurd (false≢true (sym call))
said_call names es sent k c rs Abort said call h = absurd (false≢true (sym call))

-- ---- a message is the call that its receiver reads

read_call : (es : Past) (e : DecodedRecord) (m : Message) → call_in_message (read es e m) ≡ call_in_message m
read_call es e (message.Boot c) = refl
read_call es e (message.Call c target interface method caps) = refl
read_call es e (message.Return c results caps) = at (is_late es e)
  where
    at : (b : Bool) → call_in_message (if b then message.Late c else message.Return c results caps) ≡ None
    at true = refl
    at false = refl
read_call es e (message.Late c) = refl
read_call es e (message.Failed c) = refl
read_call es e (message.Taken c by) = refl
read_call es e (message.Elsewhere c) = refl
read_call es e (message.Resolve promise to) = at (resolves_released es e)
  where
    at : (b : Bool) → call_in_message (if b then message.Resolve cap.Nothing to else message.Resolve promise to) ≡ None
    at true = refl
    at false = refl
read_call es e (message.Broken promise) = at (resolves_released es e)
  where
    at : (b : Bool) → call_in_message (if b then message.Broken cap.Nothing else message.Broken promise) ≡ None
    at true = refl
    at false = refl
read_call es e (message.Plain p) = refl

late_call : (late : Bool) (said : Message) → call_in_message (heard_late late said) ≡ call_in_message said
late_call true (message.Boot c) = refl
late_call true (message.Call c target interface method caps) = refl
late_call true (message.Return c results caps) = refl
late_call true (message.Late c) = refl
late_call true (message.Failed c) = refl
late_call true (message.Taken c by) = refl
late_call true (message.Elsewhere c) = refl
late_call true (message.Resolve promise to) = refl
late_call true (message.Broken promise) = refl
late_call true (message.Plain p) = refl
late_call false said = refl

heard_call : (es : Past) (e : DecodedRecord) (m said : Message) → call_in_message (heard es e m said) ≡ call_in_message said
heard_call es e (message.Late c) said = late_call (is_late es e) said
heard_call es e (message.Boot c) said = refl
heard_call es e (message.Call c target interface method caps) said = refl
heard_call es e (message.Return c results caps) said = refl
heard_call es e (message.Failed c) said = refl
heard_call es e (message.Taken c by) said = refl
heard_call es e (message.Elsewhere c) said = refl
heard_call es e (message.Resolve promise to) said = refl
heard_call es e (message.Broken promise) said = refl
heard_call es e (message.Plain p) said = refl

-- what a received record says that its message is, and the step that receives it
pub record IsHeard (v : ℕ) (es : Past) (own : List Step) (k c : ℕ) (rs : List ℕ) (m : RpcMessage) (s : Step) : Type 0 where
  pub message : Message
  pub bound : List Cap
  pub said : Message
  pub step : s ≡ step.Receive v k message bound
  pub reads : message_of_record (naming v (Wire false k c rs m ∷ es) (s ∷ own)) es (Wire false k c rs m) ≡ Some said
  pub call : call_in_message said ≡ call_in_message message

pub heard_so : (v : ℕ) (es : Past) (own : List Step) (k c : ℕ) (rs : List ℕ) (m : RpcMessage) (s : Step) → Says v es own (Wire false k c rs m) s → IsHeard v es own k c rs m s
heard_so v es own k c rs m s says =
    let e = Wire false k c rs m in
    let h = says_heard says in
    record {
      message = says.message;
      bound = says.bound;
      said = h.0;
      step = says.step;
      reads = h.1;
      call = sym (heard_call es e says.message h.0) ∙ ap call_in_message h.2 ∙ read_call es e says.message;
    }
