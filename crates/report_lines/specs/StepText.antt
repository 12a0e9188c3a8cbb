-- The text of a step of a run: its number, its vat, its record there, the record's kind, and the call that it names.
use Rattle.std.specs.Prelude.{ℕ, List, [], ◌++◌, Option, Some, None, codes}
use Rattle.std.specs.Fmt.{decimal}
use Rattle.run_model.specs.Steps.{call, vat_of}
use Rattle.run_model.specs.declared.name.Name.{Name}
use Rattle.run_model.specs.declared.message.Message.{Message}
use Rattle.run_model.specs.declared.message.Message.TheVariants.{Boot, Call, Return, Late, Failed, Taken, Elsewhere, Resolve, Broken, Plain}
use Rattle.run_model.specs.declared.step.Step.{Step}
use Rattle.run_model.specs.declared.step.Step.TheVariants.{Host, Vow, Fulfil, Break, Make, Name as Named, Deliver, Answer, AnswerBy, Fault, Send, Receive}
use Rattle.run_model.specs.declared.plain.Plain.{Plain as PlainOf}
use Rattle.run_model.specs.declared.plain.Plain.TheVariants as plain
use Rattle.report_lines.specs.EdgeText.{name_text}

-- the word for a message that says nothing of calls and capabilities
abbrev pub plain_word : PlainOf → List ℕ
plain_word plain.Finish = codes "finish"
plain_word plain.Release = codes "release"
plain_word plain.Disembargo = codes "disembargo"
plain_word plain.Abort = codes "abort"

-- the word for a message: with it the message's own text begins
abbrev pub message_word : Message → List ℕ
message_word (Boot c) = codes "bootstrap"
message_word (Call c target interface method caps) = codes "call"
message_word (Return c results caps) = codes "return"
message_word (Late c) = codes "return"
message_word (Failed c) = codes "return"
message_word (Taken c by) = codes "return"
message_word (Elsewhere c) = codes "return"
message_word (Resolve promise cap) = codes "resolve"
message_word (Broken promise) = codes "resolve"
message_word (Plain which) = plain_word which

-- the call that a message names, if it does
abbrev pub call_of_message : Message → Option Name
call_of_message (Boot c) = Some c
call_of_message (Call c target interface method caps) = Some c
call_of_message (Return c results caps) = Some c
call_of_message (Late c) = Some c
call_of_message (Failed c) = Some c
call_of_message (Taken c by) = Some c
call_of_message (Elsewhere c) = Some c
call_of_message (Resolve promise cap) = None
call_of_message (Broken promise) = None
call_of_message (Plain which) = None

-- the kind of a step's record
abbrev pub kind_text : Step → List ℕ
kind_text (Host vat object) = codes "host"
kind_text (Vow vat promise) = codes "vow"
kind_text (Fulfil vat promise to) = codes "fulfil"
kind_text (Break vat promise) = codes "break"
kind_text (Make vat number cap reference interface method) = codes "make"
kind_text (Named vat cap) = codes "field"
kind_text (Deliver vat c object) = codes "deliver"
kind_text (Answer vat c results) = codes "answer"
kind_text (AnswerBy vat c by) = codes "answerby"
kind_text (Fault vat c) = codes "fault"
kind_text (Send vat connection message) = codes "send " ++ message_word message
kind_text (Receive vat connection message bound) = codes "receive " ++ message_word message

-- the word of a kind, and behind it that of a message, if there is one
abbrev pub words_text : List ℕ → Option (List ℕ) → List ℕ
words_text kind None = kind
words_text kind (Some message) = kind ++ (codes " " ++ message)

-- the call that a step names, if it does
abbrev pub call_of_step : Step → Option Name
call_of_step (Make vat number cap reference interface method) = Some (call vat number)
call_of_step (Deliver vat c object) = Some c
call_of_step (Answer vat c results) = Some c
call_of_step (AnswerBy vat c by) = Some c
call_of_step (Fault vat c) = Some c
call_of_step (Send vat connection message) = call_of_message message
call_of_step (Receive vat connection message bound) = call_of_message message
call_of_step (Host vat object) = None
call_of_step (Vow vat promise) = None
call_of_step (Fulfil vat promise to) = None
call_of_step (Break vat promise) = None
call_of_step (Named vat cap) = None

-- a call behind its word, if there is one
abbrev pub called_text : Option Name → List ℕ
called_text None = []
called_text (Some c) = codes " call " ++ name_text c

-- a step, with its number in the run and that of its record in its vat's log, each counted from 0
abbrev pub step_text : ℕ → ℕ → Step → List ℕ
step_text at number step = codes "step " ++ (decimal at ++ (codes " vat " ++ (decimal (vat_of step) ++ (codes " record " ++ (decimal number
    ++ (codes " " ++ (kind_text step ++ called_text (call_of_step step))))))))
