-- How the records of a log name calls and caps, each record paired with the step of its vat. Both lists have the newest
-- first.
use Rattle.std.specs.Prelude.{ℕ, List, [], true, false, Option, Some, None, if◌then◌else◌, slice_get, length, option_and_then, option_map, ◌∷◌, ◌==◌}
use Rattle.std.specs.Option.{option_or}
use Rattle.call_trace.specs.Types.{Bootstrap, Call, DecodedRecord, Make, Wire, View, Object, Promise, FieldOf, Import, Name, Cap, Message, Step}
use Rattle.run_model.specs.Has.{call_in_message}
use Rattle.run_model.specs.Legal.{is_present, caps_brought}
use Rattle.run_model.specs.Steps.{call}
use Rattle.decoded_records.specs.Past.{Past}
use Rattle.run_model.specs.declared.cap.Cap.TheVariants as cap
use Rattle.run_model.specs.declared.step.Step.TheVariants as step

-- the message that a step sends or receives
abbrev pub message_of_step : Step → Option Message
message_of_step (step.Send v connection m) = Some m
message_of_step (step.Receive v connection m bound) = Some m
message_of_step _ = None

-- the name that a record with its step gives to a call, if it binds it: a call that the vat makes or boots is its own, one
-- that it receives has the name that the message has
abbrev pub names_call : ℕ → ℕ → DecodedRecord → Step → Option Name
names_call v c (Make d r interface method) s = if d == c then Some (call v c) else None
names_call v c (Wire true k d references (Bootstrap q)) s = if d == c then Some (call v c) else None
names_call v c (Wire false k d references (Bootstrap q)) s = if d == c then option_and_then call_in_message (message_of_step s) else None
names_call v c (Wire false k d references (Call head target params)) s = if d == c then option_and_then call_in_message (message_of_step s) else None
names_call v c _ s = None

-- the name of a call of this vat
abbrev pub call_named : ℕ → Past → List Step → ℕ → Option Name
call_named v (e ∷ es) (s ∷ steps) c = option_or (names_call v c e s) (call_named v es steps c)
call_named v _ _ c = None

-- the message of the step with this number, counted from 0
abbrev pub message_at : ℕ → List Step → Option Message
message_at i [] = None
message_at i (s ∷ before) = if length before == i then message_of_step s else message_at i before

-- the cap at a place of these, if one is there
abbrev pub cap_at : ℕ → List Cap → Option Cap
cap_at place caps = option_and_then (λ c. if is_present c then Some c else None) (slice_get caps place)

-- the name of a view: an own object or promise has the vat's number, a field the name of its call, and an import is the
-- cap at its place in the message that brought it
abbrev pub cap_named : ℕ → Past → List Step → View → Option Cap
cap_named v es steps (Object object) = Some (cap.Object v object)
cap_named v es steps (Promise r) = Some (cap.Promise v r)
cap_named v es steps (FieldOf c path) = option_map (λ name. cap.Field name path) (call_named v es steps c)
cap_named v es steps (Import i place) = option_and_then (λ m. cap_at place (caps_brought m)) (message_at i steps)

-- how a vat names its calls and views
pub record Naming : Type 0 where
  pub vat : ℕ
  pub call : ℕ → Option Name
  pub cap : View → Option Cap

-- how it does after these records with their steps
abbrev pub naming : ℕ → Past → List Step → Naming
naming v es steps = record { vat = v; call = call_named v es steps; cap = cap_named v es steps }
