-- The words of a row: the number of its record, what that says in short, the reason of its exception, and whether it is a call
-- that never ended.
use Rattle.std.specs.Prelude.{ℕ, ◌-◌, Bool, List, [], ◌∷◌, ◌++◌, length, take, Option, Some, None, if◌then◌else◌, nat_lt, codes}
use Rattle.std.specs.Fmt.{decimal}
use Rattle.std.specs.List.{join_by}
use Rattle.vat_log.specs.declared.body.Body.{Body}
use Rattle.vat_log.specs.declared.body.Body.TheVariants.{Answer, Send, Receive}
use Rattle.rpc_view.specs.declared.message.Descriptor.{Descriptor}
use Rattle.rpc_view.specs.declared.message.Outcome.{Outcome}
use Rattle.rpc_view.specs.declared.message.Outcome.TheVariants as outcomes
use Rattle.rpc_view.specs.declared.message.Resolution.TheVariants as resolutions
use Rattle.rpc_view.specs.declared.message.RpcMessage.{RpcMessage}
use Rattle.rpc_view.specs.declared.message.RpcMessage.TheVariants.{Bootstrap, Call, Return, Finish, Resolve, Release, Disembargo, Abort}
use Rattle.report_lines.specs.MessageText.{descriptor_text, loopback_text, resolution_text, target_text}
use Rattle.report_lines.specs.RecordText.{body_text}
use Rattle.picture.specs.ReasonText.{short_reason}

-- entries of a capability table
abbrev pub entries_text : List Descriptor → List ℕ
entries_text entries = join_by descriptor_text (codes ";") entries

-- a capability table: its first three entries, and how many more there are
abbrev pub caps_text : List Descriptor → List ℕ
caps_text [] = []
caps_text (entry ∷ entries) =
    if nat_lt 3 (length (entry ∷ entries))
    then codes " caps " ++ (entries_text (take 3 (entry ∷ entries)) ++ (codes " and " ++ (decimal (length (entry ∷ entries) - 3) ++ codes " more")))
    else codes " caps " ++ entries_text (entry ∷ entries)

-- what a Return says of its call
abbrev pub short_outcome : Outcome → List ℕ
short_outcome (outcomes.Results results) = codes "results" ++ caps_text results.descriptors
short_outcome outcomes.Exception = codes "exception"
short_outcome outcomes.Canceled = codes "canceled"
short_outcome outcomes.Elsewhere = codes "results sent elsewhere"
short_outcome (outcomes.TakeFrom question) = codes "takes from " ++ decimal question

-- a message: its kind, its question or number, its target, its capabilities
abbrev pub short_text : RpcMessage → List ℕ
short_text (Bootstrap question) = codes "bootstrap " ++ decimal question
short_text (Call head target params) =
    codes "call " ++ (decimal head.question ++ (codes " to " ++ (target_text target ++ caps_text params.descriptors)))
short_text (Return head outcome) = codes "return " ++ (decimal head.answer ++ (codes " " ++ short_outcome outcome))
short_text (Finish question releases) = codes "finish " ++ decimal question
short_text (Resolve promise resolution) = codes "resolve " ++ (decimal promise ++ (codes " to " ++ resolution_text resolution))
short_text (Release id count) = codes "release " ++ (decimal id ++ (codes " times " ++ decimal count))
short_text (Disembargo number loopback target) =
    codes "disembargo " ++ (decimal number ++ (codes " " ++ (loopback_text loopback ++ (codes " to " ++ target_text target))))
short_text Abort = codes "abort"

-- the results of a call: where there are more than three capabilities, how many there are
abbrev pub results_text : ℕ → List (ℕ × List ℕ) → List ℕ
results_text call results =
    if nat_lt 3 (length results)
    then codes "answer call " ++ (decimal call ++ (codes " with " ++ (decimal (length results) ++ codes " capabilities")))
    else body_text (Answer call results)

-- what a record says, whose frame has this message
abbrev pub said_text : Body → Option RpcMessage → List ℕ
said_text event (Some said) = short_text said
said_text (Send connection call references frame) None = codes "send, unread"
said_text (Receive connection call references frame) None = codes "receive, unread"
said_text (Answer call results) None = results_text call results
said_text event None = body_text event

-- what stands behind a call that never ended
abbrev pub ending_text : Bool → List ℕ
ending_text unended = if unended then codes ", never ended" else []

-- the words of a row
abbrev pub label_text : ℕ → Body → Option RpcMessage → Option (List ℕ) → Bool → List ℕ
label_text number event said reason unended = decimal number ++ (codes " " ++ (said_text event said ++ (short_reason reason ++ ending_text unended)))
