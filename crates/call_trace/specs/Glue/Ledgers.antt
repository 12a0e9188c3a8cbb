-- For the code's contracts, and no part of the meaning: the tables that are kept of each vat and of all connections, and
-- how its calls and views are named by them.
use Rattle.std.specs.Prelude.{◌≡◌, ◌==◌, ◌+◌, ◌++◌, ◌∷◌, ℕ, List, [], true, false, Option, Some, None, if◌then◌else◌, IsSome, map, reverse, option_and_then, option_map, slice_get}
use Rattle.rising_table.specs.Entries.{entry_at}
use Rattle.call_trace.specs.declared.records.bound_names.CallNames.{CallNames}
use Rattle.call_trace.specs.declared.records.vat_ledger.VatLedger.{VatLedger}
use Rattle.call_trace.specs.Naming.{Naming, message_of_step, call_named, cap_at}
use Rattle.call_trace.specs.Part.{promise_in}
use Rattle.call_trace.specs.Running.{step_received}
use Rattle.call_trace.specs.Said.{all_there, say_call, say_return, say_taken, say_resolve}
use Rattle.call_trace.specs.Types.{Descriptor, NoCap, Outcome, Results, Exception, Canceled, Elsewhere, TakeFrom, RpcMessage, Bootstrap, Call, Return, Finish, Resolve, Release, Disembargo, Abort, DecodedRecord, Host, Vow, Fulfil, Break, Make, Field, Deliver, Answer, AnswerBy, Fault, Wire, View, Object, Promise, FieldOf, Import, Name, Cap, Message, Step}
use Rattle.run_model.specs.Has.{call_in_message}
use Rattle.run_model.specs.Legal.{caps_brought}
use Rattle.run_model.specs.Steps.{call}
use Rattle.vat_rules.specs.LogFacts.{Facts, Told}
use Rattle.vat_rules.specs.Telling.{facts_of}
use Rattle.vat_rules.specs.declared.outcome.Outcome.{Outcome as FoundOutcome}
use Rattle.vat_rules.specs.declared.outcome.Outcome.TheVariants as outcome
use Rattle.decoded_records.specs.Lives.{descriptors_of}
use Rattle.decoded_records.specs.Past.{Past}
use Rattle.run_model.specs.declared.cap.Cap.TheVariants as cap
use Rattle.run_model.specs.declared.message.Message.TheVariants as message
use Rattle.run_model.specs.declared.plain.Plain.TheVariants as plain
use Rattle.run_model.specs.declared.step.Step.TheVariants as step

-- the name that the table has of a call
abbrev pub name_at : CallNames → ℕ → Option Name
name_at table c = entry_at table.entries c

-- the step of the record of this number, by the numbers of the steps
abbrev pub step_in : List Step → List ℕ → ℕ → Option Step
step_in steps numbers i = option_and_then (slice_get steps) (slice_get numbers i)

-- its message
abbrev pub step_message_in : List Step → List ℕ → ℕ → Option Message
step_message_in steps numbers i = option_and_then message_of_step (step_in steps numbers i)

-- the name of a call by the tables
abbrev pub call_name_in : VatLedger → ℕ → Option Name
call_name_in ledger c = name_at ledger.calls c

-- the name of a view by the tables
abbrev pub cap_in : List Step → VatLedger → View → Option Cap
cap_in steps ledger (Object object) = Some (cap.Object ledger.vat object)
cap_in steps ledger (Promise r) = Some (cap.Promise ledger.vat r)
cap_in steps ledger (FieldOf c path) = option_map (λ name. cap.Field name path) (call_name_in ledger c)
cap_in steps ledger (Import i place) = option_and_then (λ m. cap_at place (caps_brought m)) (step_message_in steps ledger.numbers.items i)

-- the name of a view, where there is one
abbrev pub view_in : List Step → VatLedger → Option View → Option Cap
view_in steps ledger view = option_and_then (cap_in steps ledger) view

-- how a vat names its calls and views by the tables
abbrev pub naming_by_tables : List Step → VatLedger → Naming
naming_by_tables steps ledger = record { vat = ledger.vat; call = call_name_in ledger; cap = cap_in steps ledger }

-- the cap for which a descriptor stands that has this view; Nothing where it is none
abbrev pub cap_said : Naming → Descriptor → Option View → Option Cap
cap_said names NoCap view = Some cap.Nothing
cap_said names d view = option_and_then names.cap view

-- the view of these at a place, if one is there
abbrev pub kept_view : List (Option View) → ℕ → Option View
kept_view views i = option_and_then (λ view. view) (slice_get views i)

-- the caps for which descriptors stand that have the views of these from a place on
abbrev pub caps_from : Naming → List (Option View) → ℕ → List Descriptor → List (Option Cap)
caps_from names views place [] = []
caps_from names views place (d ∷ ds) = cap_said names d (kept_view views place) ∷ caps_from names views (place + 1) ds

-- all of them
abbrev pub caps_said : Naming → List (Option View) → List Descriptor → Option (List Cap)
caps_said names views ds = all_there (caps_from names views 0 ds)

-- the call that a question stands for, by its view
abbrev pub call_of_question : Option View → Option ℕ
call_of_question (Some (FieldOf c path)) = Some c
call_of_question _ = None

-- these, and behind them all of those, where each of those is there
abbrev pub gathered_behind : {A : Type 0} → List A → List (Option A) → Option (List A)
gathered_behind xs os = option_map (λ ys. xs ++ ys) (all_there os)

-- the name of the call that a question stands for, by its view
abbrev pub answered_in : (ℕ → Option Name) → Option View → Option Name
answered_in call view = option_and_then call (call_of_question view)

-- a Resolve that is sent, by what its promise and its descriptor stand for
abbrev pub resolve_said : Option Cap → Option (List Cap) → Option Message
resolve_said promise caps = option_and_then (λ promise. option_map (say_resolve promise) caps) promise

-- a Return that is sent, by what its numbers stand for, its descriptors for these caps
abbrev pub return_said : (ℕ → Option Name) → Facts → Option (List Cap) → Outcome → Option Message
return_said call facts caps (Results payload) = option_and_then (λ name. say_return facts.late payload.fields name caps) (answered_in call facts.question)
return_said call facts caps Exception = option_map message.Failed (answered_in call facts.question)
return_said call facts caps Canceled = option_map message.Failed (answered_in call facts.question)
return_said call facts caps Elsewhere = option_map message.Elsewhere (answered_in call facts.question)
return_said call facts caps (TakeFrom n) = option_and_then (λ name. say_taken facts.late name (answered_in call facts.taken)) (answered_in call facts.question)

-- the message that a record sends, by what its numbers stand for, its descriptors for these caps
abbrev pub message_said : Naming → Facts → ℕ → Option (List Cap) → RpcMessage → Option Message
message_said names facts c caps (Bootstrap q) = option_map message.Boot (names.call c)
message_said names facts c caps (Call head target params) =
    say_call head.interface head.method caps (names.call c) (option_and_then names.cap facts.target)
message_said names facts c caps (Return head came) = return_said names.call facts caps came
message_said names facts c caps (Resolve n resolution) = resolve_said (option_and_then names.cap facts.promise) caps
message_said names facts c caps (Finish q release) = Some (message.Plain plain.Finish)
message_said names facts c caps (Release n count) = Some (message.Plain plain.Release)
message_said names facts c caps (Disembargo n loopback target) = Some (message.Plain plain.Disembargo)
message_said names facts c caps Abort = Some (message.Plain plain.Abort)

-- the same, with what its descriptors stand for looked up
abbrev pub sent_said : Naming → Facts → ℕ → RpcMessage → Option Message
sent_said names facts c m = message_said names facts c (caps_said names facts.caps (descriptors_of m)) m

-- the results of a call, by what the references from a place on stand for
abbrev pub results_from : Naming → List (Option View) → ℕ → List (ℕ × List ℕ) → List (Option (List ℕ × Cap))
results_from names views place [] = []
results_from names views place (result ∷ rest) =
    option_map (λ c. (result.1, c)) (option_and_then names.cap (kept_view views place)) ∷ results_from names views (place + 1) rest

-- all of them
abbrev pub results_said : Naming → List (Option View) → List (ℕ × List ℕ) → Option (List (List ℕ × Cap))
results_said names views results = all_there (results_from names views 0 results)

-- the caps that have these views
abbrev pub named_said : Naming → List (Option View) → Option (List Cap)
named_said names views = all_there (map (option_and_then names.cap) views)

-- the step that keeps a promise, by what both references stand for
abbrev pub fulfil_said : Naming → Facts → Option Step
fulfil_said names facts =
    option_and_then (λ p. option_map (λ c. step.Fulfil names.vat p c) (option_and_then names.cap (kept_view facts.references 1))) (promise_in (kept_view facts.references 0))

-- the step of a record that names a call and no other cap
abbrev pub of_call_said : ℕ → (ℕ → Option Name) → DecodedRecord → Option Step
of_call_said v call (Field r c path) = option_map (λ name. step.Name v (cap.Field name path)) (call c)
of_call_said v call (Deliver c object) = option_map (λ name. step.Deliver v name object) (call c)
of_call_said v call (Fault c) = option_map (λ name. step.Fault v name) (call c)
of_call_said v call _ = None

-- the step that answers a call by another
abbrev pub answer_by_said : ℕ → (ℕ → Option Name) → ℕ → ℕ → Option Step
answer_by_said v call c by = option_and_then (λ name. option_map (λ by. step.AnswerBy v name by) (call by)) (call c)

-- the step that makes a call
abbrev pub make_said : Naming → Facts → DecodedRecord → Option Step
make_said names facts (Make c r interface method) =
    option_map (λ to. step.Make names.vat c to r interface method) (option_and_then names.cap (kept_view facts.references 0))
make_said names facts _ = None

-- the step that sends a message
abbrev pub send_said : Naming → Facts → ℕ → ℕ → RpcMessage → Option Step
send_said names facts k c m = option_map (λ sent_message. step.Send names.vat k sent_message) (sent_said names facts c m)

-- the step that answers a call with results
abbrev pub answer_said : Naming → Facts → ℕ → List (ℕ × List ℕ) → Option Step
answer_said names facts c results =
    option_and_then (λ name. option_map (λ caps. step.Answer names.vat name caps) (results_said names facts.references results)) (names.call c)

-- the step of another record of what the vat makes by itself
abbrev pub own_said : Naming → Facts → DecodedRecord → Option Step
own_said names facts (Host r object) = Some (step.Host names.vat object)
own_said names facts (Vow r) = Some (step.Vow names.vat r)
own_said names facts (Fulfil r to) = fulfil_said names facts
own_said names facts (Break r) = option_map (λ p. step.Break names.vat p) (promise_in (kept_view facts.references 0))
own_said names facts (Make c r interface method) = make_said names facts (Make c r interface method)
own_said names facts (Answer c results) = answer_said names facts c results
own_said names facts _ = None

-- the step that a record says, by what its numbers stand for
abbrev pub step_said_by : Naming → Facts → DecodedRecord → Option Step
step_said_by names facts (Field r c path) = of_call_said names.vat names.call (Field r c path)
step_said_by names facts (Deliver c object) = of_call_said names.vat names.call (Deliver c object)
step_said_by names facts (AnswerBy c by) = answer_by_said names.vat names.call c by
step_said_by names facts (Fault c) = of_call_said names.vat names.call (Fault c)
step_said_by names facts (Wire sent k c references m) = send_said names facts k c m
step_said_by names facts e = own_said names facts e

-- these steps, and behind them this one, if it is there
abbrev pub pushed : Option Step → List Step → List Step
pushed None run = run
pushed (Some s) run = run ++ s ∷ []

-- the call to which a record gives a name, and the name: a call that the vat makes or boots is its own, one that it receives
-- has the name that the message has
abbrev pub call_bound_by : ℕ → DecodedRecord → Option Message → Option (ℕ × Name)
call_bound_by v (Make d r interface method) m = Some (d, call v d)
call_bound_by v (Wire true k d references (Bootstrap q)) m = Some (d, call v d)
call_bound_by v (Wire false k d references (Bootstrap q)) m = option_map (λ name. (d, name)) (option_and_then call_in_message m)
call_bound_by v (Wire false k d references (Call head target params)) m = option_map (λ name. (d, name)) (option_and_then call_in_message m)
call_bound_by v _ m = None

-- the name of a call, where it is this one that is given a name, and else the one that it had
abbrev pub bound_call : Option (ℕ × Name) → ℕ → Option Name → Option Name
bound_call (Some named) c before = if named.0 == c then Some named.1 else before
bound_call None c before = before

-- of what is kept of a vat only the names of calls are changed, by this one
pub record IsBound (named : Option (ℕ × Name)) (old new : VatLedger) : Type 0 where
  pub vat : new.vat ≡ old.vat
  pub numbers : new.numbers.items ≡ old.numbers.items
  pub calls : (c : ℕ) → call_name_in new c ≡ bound_call named c (call_name_in old c)

-- what is kept of a vat goes on by a record whose step has this number; the names of its calls stay
pub record IsNoted (number : ℕ) (old new : VatLedger) : Type 0 where
  pub vat : new.vat ≡ old.vat
  pub numbers : new.numbers.items ≡ old.numbers.items ++ number ∷ []
  pub calls : (c : ℕ) → call_name_in new c ≡ call_name_in old c

-- what is kept of a vat is that of its records and their steps, where these are the steps of all vats, the oldest first
pub record IsKept (v : ℕ) (es : Past) (own run : List Step) (ledger : VatLedger) : Type 0 where
  pub vat : ledger.vat ≡ v
  pub numbers : map (slice_get run) ledger.numbers.items ≡ map Some (reverse own)
  pub calls : (c : ℕ) → call_name_in ledger c ≡ call_named v es own c

-- a record comes that has a step: what is kept of its vat is that of records and their steps, after which these are its
-- facts and it has one
pub record HasStep (step : ℕ → Past → List Step → List Step → Option Step) (e : DecodedRecord) (facts : Facts) (run : List Step) (ledger : VatLedger) : Type 0 where
  pub vat : ℕ
  pub past : Past
  pub own : List Step
  pub before : List Step
  pub kept : IsKept vat past own run ledger
  pub known : facts ≡ facts_of past e
  pub there : IsSome (step vat past own before)

-- a record took this step: it stands behind those before, and what is kept of its vat goes on by it
abbrev pub IsTaken : ℕ → Past → DecodedRecord → List Step → Option Step → List Step → List Step → VatLedger → Type 0
IsTaken v es e own step old new ledger = (s : Step) × (step ≡ Some s) × (new ≡ old ++ s ∷ []) × IsKept v (e ∷ es) (s ∷ own) new ledger

-- the step of a received record, by this message
abbrev pub step_of_receipt : ℕ → Past → List Step → DecodedRecord → Message → Option Step
step_of_receipt v es own (Wire false k c references m) message = step_received v es own (Wire false k c references m) k references message
step_of_receipt v es own e message = None

-- a step that receives, with these bound
abbrev pub with_bound : List Cap → Step → Step
with_bound bound (step.Receive v k m old) = step.Receive v k m bound
with_bound bound s = s

-- what a good log tells
abbrev pub story_in : FoundOutcome → Option Told
story_in (outcome.Good story) = Some story
story_in _ = None
