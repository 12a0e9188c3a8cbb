-- Where views turn, and where that leads (rpc.capnp, the comments of PromisedAnswer, Payload and Resolve).
use Rattle.std.specs.Prelude.{◌≡◌, ℕ, ◌==◌, List, Bool, true, false, ◌&&◌, Option, Some, None, if◌then◌else◌, unwrap_or, option_and_then, find, IsSome}
use Rattle.std.specs.Str.{bytes_eq as same_path}
use Rattle.vat_view.specs.Types.{Outcome, Results, Exception, Canceled, Elsewhere, TakeFrom, Bootstrap, Call, Return, Finish, Resolve, Release, Disembargo, Abort, DecodedRecord, Host, Vow, Fulfil, Break, Make, Field, Deliver, Answer, AnswerBy, Fault, Wire, View, Object, Promise, FieldOf, Import}
use Rattle.decoded_records.specs.Past.{Past, id, is, record_index, last_answer}
use Rattle.decoded_records.specs.Questions.{call_at, opening, is_late}
use Rattle.decoded_records.specs.Lives.{Birth, birth}
use Rattle.decoded_records.specs.Views.{field_view, view_of_reference, view_of_descriptor}

-- where a view goes next: it turns to this view, it stops and can lead nowhere, or it stays what it is
pub data Next : Type 0 where
  turns : View → Next
  stops : Next
  stays : Next

-- a view goes on to another, or stops where there is none
abbrev pub on_to : Option View → Next
on_to (Some v) = turns v
on_to None = stops

-- a view is this own promise
abbrev pub is_promise : ℕ → Option View → Bool
is_promise p (Some (Promise q)) = q == p
is_promise p _ = false

-- a promise turns to the view of FULFIL's second reference, and stops where it is broken
abbrev pub keeps : ℕ → Past → DecodedRecord → Option Next
keeps p before (Fulfil r to) = if is_promise p (view_of_reference before r) then Some (on_to (view_of_reference before to)) else None
keeps p before (Break r) = if is_promise p (view_of_reference before r) then Some stops else None
keeps p before _ = None

-- a life began at this record and place
abbrev pub began_at : ℕ → ℕ → Option Birth → Bool
began_at record_number place (Some b) = (record_index b.from == record_number) && (b.place == place)
began_at record_number place None = false

-- an import turns to what the Resolve received during its life brought, and stops at an exception or none
abbrev pub resolves : ℕ → ℕ → Past → DecodedRecord → Option Next
resolves i place before (Wire false k c rs (Resolve n resolution)) =
    if began_at i place (birth (id k false n) before) then Some (on_to (view_of_descriptor before (Wire false k c rs (Resolve n resolution)) 0)) else None
resolves i place before _ = None

-- the capability that ANSWER gives at a path
abbrev pub answer_view_at : List ℕ → Past → List (ℕ × List ℕ) → Option View
answer_view_at path before results = option_and_then (λ answer. view_of_reference before answer.0) (find (λ answer. same_path answer.1 path) results)

-- the capability that a Return with this outcome has at a path
abbrev pub result_at : List ℕ → Past → DecodedRecord → Outcome → Option View
result_at path before e (Results payload) =
    option_and_then (λ field. view_of_descriptor before e field.1) (find (λ field. same_path field.0 path) payload.fields)
result_at path before e Exception = None
result_at path before e Canceled = None
result_at path before e Elsewhere = None
result_at path before e (TakeFrom n) = None

-- a field turns to ANSWER's reference at its path, or to what a received Return that isn't late brought there; at
-- ANSWERBY, and where a received Return that isn't late takes the results of another call, to that call's field at the
-- same path. It stops where the call faulted, failed, came late or has nothing there. Results that were sent elsewhere
-- say nothing of it, and no other record turns it; each stands here by its name
abbrev pub answers : ℕ → List ℕ → Past → DecodedRecord → Option Next
answers call path before (Answer c results) = if c == call then Some (on_to (answer_view_at path before results)) else None
answers call path before (AnswerBy c by) = if c == call then Some (turns (FieldOf by path)) else None
answers call path before (Fault c) = if c == call then Some stops else None
answers call path before (Wire false k c rs (Return head Elsewhere)) = None
answers call path before (Wire false k c rs (Return head (TakeFrom n))) =
    let e = Wire false k c rs (Return head (TakeFrom n)) in
    if is call (call_at (opening (id k true head.answer) before)) then Some (if is_late before e then stops else on_to (field_view (id k false n) path before)) else None
answers call path before (Wire false k c rs (Return head outcome)) =
    let e = Wire false k c rs (Return head outcome) in
    if is call (call_at (opening (id k true head.answer) before)) then Some (if is_late before e then stops else on_to (result_at path before e outcome)) else None
answers call path before (Wire false k c rs (Bootstrap q)) = None
answers call path before (Wire false k c rs (Call head target params)) = None
answers call path before (Wire false k c rs (Finish q release)) = None
answers call path before (Wire false k c rs (Resolve n resolution)) = None
answers call path before (Wire false k c rs (Release n count)) = None
answers call path before (Wire false k c rs (Disembargo n loopback target)) = None
answers call path before (Wire false k c rs Abort) = None
answers call path before (Wire true k c rs m) = None
answers call path before (Host r object) = None
answers call path before (Vow r) = None
answers call path before (Fulfil r to) = None
answers call path before (Break r) = None
answers call path before (Make c r interface method) = None
answers call path before (Field r c at) = None
answers call path before (Deliver c object) = None

-- where a record turns a view, if it does: it keeps or breaks a promise, ends a call, or resolves an import
abbrev pub turn : View → Past → DecodedRecord → Option Next
turn (Object object) before e = None
turn (Promise p) before e = keeps p before e
turn (FieldOf call path) before e = answers call path before e
turn (Import i place) before e = resolves i place before e

-- where a view goes next: where the last record that turned it did, or it stays
abbrev pub next : Past → View → Next
next past v = unwrap_or (last_answer (turn v) past) stays

-- the view to which a view turns, by where it goes next
abbrev pub turned_to : Next → Option View
turned_to (turns v) = Some v
turned_to stops = None
turned_to stays = None

-- (rpc.capnp, Resolve.promiseId and Return: a promise is resolved once, and a question has one Return)
-- a record turns or stops only views that stay before it: the rules on promises, answers, Returns and Resolves together
abbrev pub TurnsOnce : Past → DecodedRecord → Type 0
TurnsOnce before e = (v : View) → IsSome (turn v before e) → next before v ≡ stays

-- one view leads to another: by no turn, or by a turn to a view that leads there
pub data Leads (past : Past) : View → View → Type 0 where
  here : {a : View} → Leads past a a
  onward : {a b c : View} → next past a ≡ turns b → Leads past b c → Leads past a c

-- one view leads to another by 1 or more turns: it turns to a view that leads there
pub data LeadsByTurns (past : Past) : View → View → Type 0 where
  turned : {a b c : View} → next past a ≡ turns b → Leads past b c → LeadsByTurns past a c

-- two views are one: both lead, by 0 or more turns, to a common view
abbrev pub AreOne : Past → View → View → Type 0
AreOne past a b = (c : View) × Leads past a c × Leads past b c

-- a view became another: it turned, and is one with it
abbrev pub Became : Past → View → View → Type 0
Became past a b = (c : View) × (next past a ≡ turns c) × AreOne past a b

-- a view's end is the last of its walk; it has none where the walk stops or goes in a circle
pub record IsEnd (past : Past) (a end : View) : Type 0 where
  pub led : Leads past a end
  pub last : next past end ≡ stays
