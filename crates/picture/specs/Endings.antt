-- Which calls end, by the end of the log that makes or sends them.
use Rattle.std.specs.Prelude.{ℕ, ◌==◌, Bool, true, false, not, List, Option, Some, None, if◌then◌else◌}
use Rattle.std.specs.List.{list_any}
use Rattle.std.specs.Option.{option_map_or}
use Rattle.rpc_view.specs.declared.edition.Edition.{Edition}
use Rattle.rpc_view.specs.declared.message.RpcMessage.{RpcMessage}
use Rattle.rpc_view.specs.declared.message.RpcMessage.TheVariants as messages
use Rattle.vat_log.specs.declared.body.Body.{Body}
use Rattle.vat_log.specs.declared.body.Body.TheVariants.{Make, Answer, Fault, Send, AnswerBy}
use Rattle.vat_log.specs.Passages.{passes}
use Rattle.picture.specs.Places.{message_of_body}
use Rattle.picture.specs.declared.passing.endings.BegunCall.{BegunCall}

-- the call that a record makes, or sends by this message: its number and, where it is sent, its connection and its question there
abbrev pub call_begun : Body → Option RpcMessage → Option BegunCall
call_begun (Make call reference interface method) said = Some (record { call = call; question = None })
call_begun (Send connection call references frame) (Some (messages.Bootstrap question)) = Some (record { call = call; question = Some (connection, question) })
call_begun (Send connection call references frame) (Some (messages.Call head target params)) =
    Some (record { call = call; question = Some (connection, head.question) })
call_begun event said = None

-- a record says that the call ended: its results, or that it has none
abbrev pub says_end : ℕ → Body → Bool
says_end call (Answer ended results) = ended == call
says_end call (Fault ended) = ended == call
says_end call (AnswerBy ended by) = ended == call
says_end call event = false

-- a record says so of a call that was made, or sends it: whether it ends is seen there then
abbrev pub ends_made : ℕ → Body → Bool
ends_made call (Send connection sent references frame) = sent == call
ends_made call event = says_end call event

-- a message is the Return to this question
abbrev pub is_return_to : ℕ → Option RpcMessage → Bool
is_return_to question (Some (messages.Return head outcome)) = head.answer == question
is_return_to question said = false

-- a record receives it
abbrev pub brings_return : Edition → ℕ → ℕ → Body → Bool
brings_return edition connection question event =
    if passes false connection event then is_return_to question (message_of_body edition event) else false

-- a record ends the call of this number, which was made, or sent by this question
abbrev pub ends_by : Edition → ℕ → Option (ℕ × ℕ) → Body → Bool
ends_by edition call None event = ends_made call event
ends_by edition call (Some question) event = if says_end call event then true else brings_return edition question.0 question.1 event

-- the same of a call
abbrev pub ends_call : Edition → BegunCall → Body → Bool
ends_call edition begun event = ends_by edition begun.call begun.question event

-- none of these records ends the call
abbrev pub none_ends : Edition → List Body → BegunCall → Bool
none_ends edition records begun = not (list_any (ends_call edition begun) records)

-- a record makes or sends a call, and no record from it on ends that
abbrev pub is_unended : Edition → Body → Option RpcMessage → List Body → Bool
is_unended edition event said records = option_map_or (none_ends edition records) (call_begun event said) false
