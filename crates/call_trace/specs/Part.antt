-- When a log is its vat's part of a run: its records and the vat's steps pair off, and each record says its step.
use Rattle.std.specs.Prelude.{ℕ, List, [], Bool, true, false, not, Option, Some, None, ⊤, if◌then◌else◌, reverse, map, option_and_then, option_map, ◌≡◌, ◌∷◌}
use Rattle.call_trace.specs.Naming.{Naming, naming}
use Rattle.call_trace.specs.Said.{all_there, message_of_record}
use Rattle.call_trace.specs.Types.{Resolve, DecodedRecord, Host, Vow, Fulfil, Break, Make, Field, Deliver, Answer, AnswerBy, Fault, Wire, View, Promise, Cap, Message, Step}
use Rattle.run_model.specs.Steps.{steps_of}
use Rattle.decoded_records.specs.Lives.{is_in_life}
use Rattle.decoded_records.specs.Past.{Past, id}
use Rattle.decoded_records.specs.Questions.{is_late}
use Rattle.decoded_records.specs.Views.{view_of_reference}
use Rattle.run_model.specs.declared.cap.Cap.TheVariants as cap
use Rattle.run_model.specs.declared.message.Message.TheVariants as message
use Rattle.run_model.specs.declared.step.Step.TheVariants as step

-- the cap of a reference
abbrev pub reference_named : Naming → Past → ℕ → Option Cap
reference_named names es r = option_and_then names.cap (view_of_reference es r)

-- the own promise that a reference stands for, by the reference that vowed it
abbrev pub promise_in : Option View → Option ℕ
promise_in (Some (Promise p)) = Some p
promise_in _ = None

-- a result: the cap of its reference, at its path
abbrev pub result_named : Naming → Past → ℕ × List ℕ → Option (List ℕ × Cap)
result_named names es result = option_map (λ c. (result.1, c)) (reference_named names es result.0)

-- the step that a record of the vat's own says, or a SEND
abbrev pub step_said : Naming → Past → DecodedRecord → Option Step
step_said names es (Host r object) = Some (step.Host names.vat object)
step_said names es (Vow r) = Some (step.Vow names.vat r)
step_said names es (Fulfil r to) =
    option_and_then (λ p. option_map (λ c. step.Fulfil names.vat p c) (reference_named names es to)) (promise_in (view_of_reference es r))
step_said names es (Break r) = option_map (λ p. step.Break names.vat p) (promise_in (view_of_reference es r))
step_said names es (Make c r interface method) = option_map (λ to. step.Make names.vat c to r interface method) (reference_named names es r)
step_said names es (Field r c path) = option_map (λ name. step.Name names.vat (cap.Field name path)) (names.call c)
step_said names es (Deliver c object) = option_map (λ name. step.Deliver names.vat name object) (names.call c)
step_said names es (Answer c results) =
    option_and_then (λ name. option_map (λ caps. step.Answer names.vat name caps) (all_there (map (result_named names es) results))) (names.call c)
step_said names es (AnswerBy c by) = option_and_then (λ name. option_map (λ by. step.AnswerBy names.vat name by) (names.call by)) (names.call c)
step_said names es (Fault c) = option_map (λ name. step.Fault names.vat name) (names.call c)
step_said names es (Wire sent k c references m) = option_map (λ sent_message. step.Send names.vat k sent_message) (message_of_record names es (Wire sent k c references m))

-- a record resolves a number that is out of life
abbrev pub resolves_released : Past → DecodedRecord → Bool
resolves_released es (Wire sent k c references (Resolve n resolution)) = not (is_in_life (id k sent n) es)
resolves_released es _ = false

-- of a Return that comes late, and takes results by its number, the call that it answers is asked alone
abbrev pub heard_late : Bool → Message → Message
heard_late true (message.Taken c by) = message.Late c
heard_late late m = m

-- an end reads a message as it was sent, by what its log says of the record that received it; two cases leave something
-- unread there, and what a late Return takes was left unsaid
abbrev pub ReadsAsSent : Naming → Past → DecodedRecord → Message → Type 0
ReadsAsSent names es e (message.Boot c) = message_of_record names es e ≡ Some (message.Boot c)
ReadsAsSent names es e (message.Call c target interface method caps) = message_of_record names es e ≡ Some (message.Call c target interface method caps)
-- of a Return that is late there, its results and caps
ReadsAsSent names es e (message.Return c results caps) =
    message_of_record names es e ≡ Some (if is_late es e then message.Late c else message.Return c results caps)
ReadsAsSent names es e (message.Late c) = option_map (heard_late (is_late es e)) (message_of_record names es e) ≡ Some (message.Late c)
ReadsAsSent names es e (message.Failed c) = message_of_record names es e ≡ Some (message.Failed c)
ReadsAsSent names es e (message.Taken c by) = message_of_record names es e ≡ Some (message.Taken c by)
ReadsAsSent names es e (message.Elsewhere c) = message_of_record names es e ≡ Some (message.Elsewhere c)
-- of a Resolve whose number is out of life there, its promise
ReadsAsSent names es e (message.Resolve promise to) =
    message_of_record names es e ≡ Some (if resolves_released es e then message.Resolve cap.Nothing to else message.Resolve promise to)
ReadsAsSent names es e (message.Broken promise) =
    message_of_record names es e ≡ Some (if resolves_released es e then message.Broken cap.Nothing else message.Broken promise)
ReadsAsSent names es e (message.Plain p) = message_of_record names es e ≡ Some (message.Plain p)

-- a RECV says a Receive of a message that it reads; the references noted beside it are the caps bound
pub record SaysReceive (names : Naming) (es : Past) (e : DecodedRecord) (k : ℕ) (references : List ℕ) (s : Step) : Type 0 where
  pub message : Message
  pub bound : List Cap
  pub step : s ≡ step.Receive names.vat k message bound
  pub reads : ReadsAsSent names es e message
  pub binds : all_there (map (reference_named names (e ∷ es)) references) ≡ Some bound

-- a record says a step, after the records and steps before
abbrev pub Says : ℕ → Past → List Step → DecodedRecord → Step → Type 0
Says v es steps (Wire false k c references m) s =
    let e = Wire false k c references m in SaysReceive (naming v (e ∷ es) (s ∷ steps)) es e k references s
Says v es steps e s = step_said (naming v (e ∷ es) (s ∷ steps)) es e ≡ Some s

-- the records and the steps of a vat pair off, the newest first, and each record says its step
abbrev pub PairsOff : ℕ → Past → List Step → Type 0
PairsOff v [] [] = ⊤
PairsOff v (e ∷ es) (s ∷ steps) = Says v es steps e s × PairsOff v es steps
PairsOff v _ _ = ⊥

-- a log, its records the newest first, is its vat's part of a run
abbrev pub IsPart : List Step → ℕ → Past → Type 0
IsPart run v past = PairsOff v past (steps_of v (reverse run))
