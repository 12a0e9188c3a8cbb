-- What a message says, as one end reads it by its own log and names it. Where the log doesn't say what a number stands
-- for, no message is said; only the promise of a received Resolve is Nothing then.
use Rattle.std.specs.Prelude.{ℕ, List, [], Bool, true, false, not, Option, Some, None, filter_map, map, option_and_then, option_map, unwrap_or, ◌∷◌, ◌&&◌}
use Rattle.call_trace.specs.Naming.{Naming, cap_at}
use Rattle.call_trace.specs.Types.{Descriptor, NoCap, Results, Exception, Canceled, Elsewhere, TakeFrom, RpcMessage, Bootstrap, Call, Return, Finish, Resolve, Release, Disembargo, Abort, DecodedRecord, Wire, Name, Cap, Message}
use Rattle.decoded_records.specs.Lives.{descriptors}
use Rattle.decoded_records.specs.Past.{Past, id}
use Rattle.decoded_records.specs.Questions.{is_late, call_of}
use Rattle.decoded_records.specs.Views.{view_of_reference, view_of_number, view_of_target, descriptor_view}
use Rattle.run_model.specs.declared.cap.Cap.TheVariants as cap
use Rattle.run_model.specs.declared.message.Message.TheVariants as message
use Rattle.run_model.specs.declared.plain.Plain.TheVariants as plain

-- all of these, where each is there
abbrev pub all_there : {A : Type 0} → List (Option A) → Option (List A)
all_there [] = Some []
all_there (None ∷ _) = None
all_there (Some x ∷ xs) = option_map (λ ys. x ∷ ys) (all_there xs)

-- the cap for which a descriptor of a record stands; Nothing where it is none
abbrev pub descriptor_named : Naming → Past → DecodedRecord → Descriptor → Option Cap
descriptor_named names es e NoCap = Some cap.Nothing
descriptor_named names es e d = option_and_then names.cap (descriptor_view (view_of_reference es) es e d)

-- the caps of a record's message, by place
abbrev pub caps_named : Naming → Past → DecodedRecord → Option (List Cap)
caps_named names es e = all_there (map (descriptor_named names es e) (descriptors e))

-- the caps that stand at paths: none stands where the index is past the table, or the cap there is Nothing
abbrev pub caps_at_paths : List Cap → List (List ℕ × ℕ) → List (List ℕ × Cap)
caps_at_paths caps fields = filter_map (λ field. option_map (λ c. (field.0, c)) (cap_at field.1 caps)) fields

-- a Call whose caps, name and target are there
abbrev pub say_call : ℕ → ℕ → Option (List Cap) → Option Name → Option Cap → Option Message
say_call interface method (Some caps) (Some c) (Some target) = Some (message.Call c target interface method caps)
say_call interface method _ _ _ = None

-- a Return with these results and caps, late or not
abbrev pub say_return : Bool → List (List ℕ × ℕ) → Name → Option (List Cap) → Option Message
say_return true fields c caps = Some (message.Late c)
say_return false fields c caps = option_map (λ caps. message.Return c (caps_at_paths caps fields) caps) caps

-- a Return that takes the results of a call, whose call it answers; one that is late where it is sent is Late
abbrev pub say_taken : Bool → Name → Option Name → Option Message
say_taken true c by = Some (message.Late c)
say_taken false c by = option_map (λ by. message.Taken c by) by

-- a Resolve of a promise to its cap; Broken where there is none
abbrev pub say_resolve : Cap → List Cap → Message
say_resolve promise (cap.Nothing ∷ _) = message.Broken promise
say_resolve promise (c ∷ _) = message.Resolve promise c
say_resolve promise [] = message.Broken promise

-- the promise that a Resolve names; Nothing where it is received and its number is out of life
abbrev pub promise_named : Naming → Past → ℕ → Bool → ℕ → Option Cap
promise_named names es k true n = option_and_then names.cap (view_of_number (id k true n) es)
promise_named names es k false n = Some (unwrap_or (option_and_then names.cap (view_of_number (id k false n) es)) cap.Nothing)

-- the call of the question that a Return answers
abbrev pub call_answered : Naming → Past → ℕ → Bool → ℕ → Option Name
call_answered names es k sent q = option_and_then names.call (call_of (id k (not sent) q) es)

-- the message of a record, which is sent or received on this connection with this call noted
abbrev pub message_named : Naming → Past → DecodedRecord → Bool → ℕ → ℕ → RpcMessage → Option Message
message_named names es e sent k c (Bootstrap q) = option_map message.Boot (names.call c)
message_named names es e sent k c (Call head target params) =
    say_call head.interface head.method (caps_named names es e) (names.call c) (option_and_then names.cap (view_of_target es e))
message_named names es e sent k c (Return head (Results payload)) =
    option_and_then (λ name. say_return (is_late es e) payload.fields name (caps_named names es e)) (call_answered names es k sent head.answer)
message_named names es e sent k c (Return head Exception) = option_map message.Failed (call_answered names es k sent head.answer)
message_named names es e sent k c (Return head Canceled) = option_map message.Failed (call_answered names es k sent head.answer)
message_named names es e sent k c (Return head Elsewhere) = option_map message.Elsewhere (call_answered names es k sent head.answer)
message_named names es e sent k c (Return head (TakeFrom n)) =
    option_and_then (λ name. say_taken (sent && is_late es e) name (option_and_then names.call (call_of (id k sent n) es))) (call_answered names es k sent head.answer)
message_named names es e sent k c (Resolve n resolution) =
    option_and_then (λ promise. option_map (say_resolve promise) (caps_named names es e)) (promise_named names es k sent n)
message_named names es e sent k c (Finish q release) = Some (message.Plain plain.Finish)
message_named names es e sent k c (Release n count) = Some (message.Plain plain.Release)
message_named names es e sent k c (Disembargo n loopback target) = Some (message.Plain plain.Disembargo)
message_named names es e sent k c Abort = Some (message.Plain plain.Abort)

-- the message of a record, as this end reads it; a record of the vat's own has none
abbrev pub message_of_record : Naming → Past → DecodedRecord → Option Message
message_of_record names es (Wire sent k c references m) = message_named names es (Wire sent k c references m) sent k c m
message_of_record names es _ = None
