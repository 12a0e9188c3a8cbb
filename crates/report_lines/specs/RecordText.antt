-- The text of a record of a log, as it is listed: its number, its kind, and each of its fields behind its name.
use Rattle.std.specs.Prelude.{ℕ, ◌==◌, if◌then◌else◌, List, [], ◌∷◌, ◌++◌, Option, Some, None, codes}
use Rattle.std.specs.Fmt.{decimal}
use Rattle.std.specs.List.{join_by}
use Rattle.vat_log.specs.declared.body.Body.{Body}
use Rattle.vat_log.specs.declared.body.Body.TheVariants.{Host, Vow, Fulfil, Break, Make, Field, Deliver, Answer, Fault, Send, Receive, AnswerBy}
use Rattle.report_lines.specs.declared.answer.Answer.{Answer as Answered}
use Rattle.report_lines.specs.Lines.{answer_text}
use Rattle.report_lines.specs.MessageText.{hexadecimal, path_text}

-- references, in their order: [1,2]
abbrev pub references_text : List ℕ → List ℕ
references_text references = codes "[" ++ (join_by decimal (codes ",") references ++ codes "]")

-- the call that is noted beside a frame, if one is
abbrev pub noted_call_text : ℕ → List ℕ
noted_call_text call = if call == 0 then [] else codes " call " ++ decimal call

-- the references that are noted beside a frame, if there are any
abbrev pub noted_references : List ℕ → List ℕ
noted_references [] = []
noted_references (reference ∷ others) = codes " references " ++ references_text (reference ∷ others)

-- what is noted beside a frame: its connection, and the call and the references, if there are any
abbrev pub noted_text : ℕ → ℕ → List ℕ → List ℕ
noted_text connection call references = codes " connection " ++ (decimal connection ++ (noted_call_text call ++ noted_references references))

-- a capability in the results of a call: where it stands, and its reference
abbrev pub answered_text : (ℕ × List ℕ) → List ℕ
answered_text answered = path_text answered.1 ++ (codes "=" ++ decimal answered.0)

-- what a record says, but for its frame
abbrev pub body_text : Body → List ℕ
body_text (Host reference object) = codes "host reference " ++ (decimal reference ++ (codes " object " ++ decimal object))
body_text (Vow reference) = codes "vow reference " ++ decimal reference
body_text (Fulfil reference to) = codes "fulfil reference " ++ (decimal reference ++ (codes " to " ++ decimal to))
body_text (Break reference) = codes "break reference " ++ decimal reference
body_text (Make call reference interface method) = codes "make call " ++ (decimal call ++ (codes " reference " ++ (decimal reference
    ++ (codes " interface " ++ (hexadecimal interface ++ (codes " method " ++ decimal method))))))
body_text (Field reference call path) = codes "field reference " ++ (decimal reference ++ (codes " call " ++ (decimal call ++ (codes " path " ++ path_text path))))
body_text (Deliver call object) = codes "deliver call " ++ (decimal call ++ (codes " object " ++ decimal object))
body_text (Answer call results) = codes "answer call " ++ (decimal call ++ (codes " results [" ++ (join_by answered_text (codes ";") results ++ codes "]")))
body_text (Fault call) = codes "fault call " ++ decimal call
body_text (Send connection call references frame) = codes "send" ++ noted_text connection call references
body_text (Receive connection call references frame) = codes "receive" ++ noted_text connection call references
body_text (AnswerBy call by) = codes "answerby call " ++ (decimal call ++ (codes " by " ++ decimal by))

-- a record with its number, counted from 0; behind it what is answered to its frame, if it has one
abbrev pub record_text : ℕ → Body → Option Answered → List ℕ
record_text at event None = decimal at ++ (codes " " ++ body_text event)
record_text at event (Some answer) = decimal at ++ (codes " " ++ (body_text event ++ (codes " " ++ answer_text answer)))
