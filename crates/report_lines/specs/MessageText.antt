-- The text of a message. Numbers are decimal, but for an interface's.
use Rattle.std.specs.Prelude.{ℕ, ◌-◌, Bool, false, if◌then◌else◌, List, [], ◌++◌, length, replicate, codes}
use Rattle.std.specs.Fmt.{decimal, digits}
use Rattle.std.specs.List.{join_by}
use Rattle.rpc_view.specs.declared.message.Target.{Target}
use Rattle.rpc_view.specs.declared.message.Target.TheVariants.{Imported, Promised}
use Rattle.rpc_view.specs.declared.message.Descriptor.{Descriptor}
use Rattle.rpc_view.specs.declared.message.Descriptor.TheVariants.{NoCap, SenderHosted, SenderPromise, ReceiverHosted, ReceiverAnswer}
use Rattle.rpc_view.specs.declared.message.Payload.{Payload}
use Rattle.rpc_view.specs.declared.message.Outcome.{Outcome}
use Rattle.rpc_view.specs.declared.message.Outcome.TheVariants as outcomes
use Rattle.rpc_view.specs.declared.message.Resolution.{Resolution}
use Rattle.rpc_view.specs.declared.message.Resolution.TheVariants as resolutions
use Rattle.rpc_view.specs.declared.message.Loopback.{Loopback}
use Rattle.rpc_view.specs.declared.message.Loopback.TheVariants.{Sender, Receiver}
use Rattle.rpc_view.specs.declared.message.RpcMessage.{RpcMessage}
use Rattle.rpc_view.specs.declared.message.RpcMessage.TheVariants.{Bootstrap, Call, Return, Finish, Resolve, Release, Disembargo, Abort}

-- a path's numbers, the outermost struct's first: [a,b]
abbrev pub path_text : List ℕ → List ℕ
path_text path = codes "[" ++ (join_by decimal (codes ",") path ++ codes "]")

-- what a call goes to: the receiver's export by its number, or an answer's field by its path
abbrev pub target_text : Target → List ℕ
target_text (Imported number) = codes "import " ++ decimal number
target_text (Promised question path) = codes "answer " ++ (decimal question ++ (codes " " ++ path_text path))

-- an entry of a capability table
abbrev pub descriptor_text : Descriptor → List ℕ
descriptor_text NoCap = codes "none"
descriptor_text (SenderHosted number) = codes "senderHosted " ++ decimal number
descriptor_text (SenderPromise number) = codes "senderPromise " ++ decimal number
descriptor_text (ReceiverHosted number) = codes "receiverHosted " ++ decimal number
descriptor_text (ReceiverAnswer question path) = codes "receiverAnswer " ++ (decimal question ++ (codes " " ++ path_text path))

-- a capability of the content: its path, and its index in the table
abbrev pub field_text : (List ℕ × ℕ) → List ℕ
field_text field = path_text field.0 ++ (codes "=" ++ decimal field.1)

-- the capability table, and the capabilities of the content
abbrev pub payload_text : Payload → List ℕ
payload_text payload = codes "caps [" ++ (join_by descriptor_text (codes ";") payload.descriptors
    ++ (codes "] fields [" ++ (join_by field_text (codes ";") payload.fields ++ codes "]")))

-- sixteen hexadecimal digits: zeros, and then those of the number
unfoldable pub hexadecimal : ℕ → List ℕ
hexadecimal number = replicate (16 - length (digits 16 false number)) 48 ++ digits 16 false number

abbrev pub bool_text : Bool → List ℕ
bool_text b = if b then codes "true" else codes "false"

-- what a Return says of its call
abbrev pub outcome_text : Outcome → List ℕ
outcome_text (outcomes.Results results) = codes "results " ++ payload_text results
outcome_text outcomes.Exception = codes "exception"
outcome_text outcomes.Canceled = codes "canceled"
outcome_text outcomes.Elsewhere = codes "resultsSentElsewhere"
outcome_text (outcomes.TakeFrom question) = codes "takeFromOtherQuestion " ++ decimal question

-- what a promise came to
abbrev pub resolution_text : Resolution → List ℕ
resolution_text (resolutions.Cap descriptor) = descriptor_text descriptor
resolution_text resolutions.Exception = codes "exception"

abbrev pub loopback_text : Loopback → List ℕ
loopback_text Sender = codes "senderLoopback"
loopback_text Receiver = codes "receiverLoopback"

-- at the end of a Call whose results stay with their answerer
abbrev pub yourself_text : Bool → List ℕ
yourself_text yourself = if yourself then codes " yourself" else []

-- at the end of a Return behind which no Finish is needed
abbrev pub light_text : Bool → List ℕ
light_text light = if light then codes " noFinishNeeded" else []

-- a message: its kind, and each of its fields behind its name
abbrev pub message_text : RpcMessage → List ℕ
message_text (Bootstrap question) = codes "bootstrap question " ++ decimal question
message_text (Call head target params) = codes "call question " ++ (decimal head.question ++ (codes " target " ++ (target_text target
    ++ (codes " interface " ++ (hexadecimal head.interface ++ (codes " method " ++ (decimal head.method ++ (codes " " ++ (payload_text params ++ yourself_text head.yourself)))))))))
message_text (Return head outcome) = codes "return answer " ++ (decimal head.answer
    ++ (codes " releaseParamCaps " ++ (bool_text head.release_param_caps ++ (codes " " ++ (outcome_text outcome ++ light_text head.light)))))
message_text (Finish question releases) = codes "finish question " ++ (decimal question ++ (codes " releaseResultCaps " ++ bool_text releases))
message_text (Resolve promise resolution) = codes "resolve promise " ++ (decimal promise ++ (codes " " ++ resolution_text resolution))
message_text (Release id count) = codes "release id " ++ (decimal id ++ (codes " count " ++ decimal count))
message_text (Disembargo number loopback target) = codes "disembargo " ++ (decimal number ++ (codes " " ++ (loopback_text loopback ++ (codes " " ++ target_text target))))
message_text Abort = codes "abort"
