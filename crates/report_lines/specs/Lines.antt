-- The line and the exit status of each answer.
use Rattle.std.specs.Prelude.{◌≡◌, ℕ, List, [], ◌∷◌, ◌++◌, length, codes}
use Rattle.std.specs.Fmt.{decimal}
use Rattle.vat_log.specs.Spelling.{log_bytes}
use Rattle.vat_rules.specs.declared.rule.Rule.{Rule}
use Rattle.vat_rules.specs.declared.rule.Rule.TheVariants as rule
use Rattle.vat_rules.specs.declared.outcome.Why.{Why}
use Rattle.vat_rules.specs.declared.outcome.Why.TheVariants as why
use Rattle.vat_rules.specs.declared.outcome.Outcome.{Outcome}
use Rattle.vat_rules.specs.declared.outcome.Outcome.TheVariants.{Good, Broken, Outside}
use Rattle.case_report.specs.declared.report.Breach.{Breach}
use Rattle.case_report.specs.declared.report.Breach.TheVariants as breach
use Rattle.case_report.specs.declared.report.Report.{Report as ReportOf}
use Rattle.case_report.specs.declared.report.Report.TheVariants as report
use Rattle.wire_cut.specs.declared.end.End.{End}
use Rattle.wire_cut.specs.declared.end.End.TheVariants as end
use Rattle.case_report.specs.declared.wire_line.WireLine.{WireLine}
use Rattle.case_report.specs.declared.wire_line.WireLine.TheVariants as wire
use Rattle.report_lines.specs.declared.join_text.JoinLine.{JoinLine}
use Rattle.report_lines.specs.declared.join_text.JoinLine.TheVariants as join
use Rattle.report_lines.specs.declared.answer.Answer.{Answer}
use Rattle.report_lines.specs.declared.answer.Answer.TheVariants.{Finding, Report, Message, Order, NoOrder, Migrated, Salvaged, Wire, Join, Fault}
use Rattle.report_lines.specs.Faults.{fault_status, fault_text}
use Rattle.report_lines.specs.MessageText.{message_text}

-- the code of a rule
abbrev pub code_of : Rule → List ℕ
code_of rule.Closed = codes "CLOSED"
code_of rule.Ref = codes "REF"
code_of rule.Vow = codes "VOW"
code_of rule.Here = codes "HERE"
code_of rule.QNew = codes "QNEW"
code_of rule.QUse = codes "QUSE"
code_of rule.XUse = codes "XUSE"
code_of rule.Goal = codes "GOAL"
code_of rule.Answer = codes "ANSWER"
code_of rule.Desc = codes "DESC"
code_of rule.Count = codes "COUNT"
code_of rule.Result = codes "RESULT"
code_of rule.Resolve = codes "RESOLVE"
code_of rule.RecvRef = codes "RECVREF"
code_of rule.Emb = codes "EMB"

-- the word for why a record isn't judged
abbrev pub word_of : Why → List ℕ
word_of why.Level = codes "Level"
word_of why.Unimplemented = codes "Unimplemented"
word_of why.LaterField = codes "LaterField"
word_of why.Unread = codes "Unread"

-- a record of a vat breaks what has this code
abbrev pub broken_text : ℕ → ℕ → List ℕ → List ℕ
broken_text vat at code = codes "no vat " ++ (decimal vat ++ (codes " record " ++ (decimal at ++ (codes " rule " ++ code))))

-- a record of a vat isn't judged
abbrev pub outside_text : ℕ → ℕ → Why → List ℕ
outside_text vat at reason = codes "outside vat " ++ (decimal vat ++ (codes " record " ++ (decimal at ++ (codes " " ++ word_of reason))))

-- what was found of a vat, with the number of records in its log
abbrev pub log_outcome_text : ℕ → ℕ → Outcome → List ℕ
log_outcome_text vat records (Good told) = codes "good vat " ++ (decimal vat ++ (codes " records " ++ (decimal records ++ (codes " delivered " ++ decimal told.delivered))))
log_outcome_text vat records (Broken at broken) = broken_text vat at (code_of broken)
log_outcome_text vat records (Outside at reason) = outside_text vat at reason

-- 0 for good, 1 for a broken rule, 2 for a record that isn't judged
abbrev pub outcome_status : Outcome → ℕ
outcome_status (Good told) = 0
outcome_status (Broken at broken) = 1
outcome_status (Outside at reason) = 2

-- the code of what a record breaks: a rule of its own log, or the order of calls
abbrev pub breach_code : Breach → List ℕ
breach_code (breach.Rule rule) = code_of rule
breach_code breach.Order = codes "ORDER"

-- no order of the records exists
abbrev pub no_order_text : List ℕ
no_order_text = codes "no order exists"

-- what is answered of a case
abbrev pub report_text : ReportOf → List ℕ
report_text (report.Vat vat at broken) = broken_text vat at (breach_code broken)
report_text (report.OutsideVat vat at reason) = outside_text vat at reason
report_text (report.Link connection end message) = codes "no link " ++ (decimal connection ++ (codes " end " ++ (decimal end ++ (codes " message " ++ decimal message))))
report_text (report.OrderStep step) = codes "no order step " ++ decimal step
report_text report.NoOrder = no_order_text
report_text (report.Yes vats records delivered under_way run) = codes "yes vats " ++ (decimal vats ++ (codes " records " ++ (decimal records
    ++ (codes " delivered " ++ (decimal delivered ++ (codes " under_way " ++ decimal under_way))))))

-- 0 for yes, 1 for each no, 2 for a record that isn't judged
abbrev pub report_status : ReportOf → ℕ
report_status (report.OutsideVat vat at reason) = 2
report_status (report.Yes vats records delivered under_way run) = 0
report_status _ = 1

-- the name of an end of a connection: that of its file
abbrev pub end_name : End → List ℕ
end_name end.A = codes "A"
end_name end.B = codes "B"

-- a message, by its end and its number among those of that end
abbrev pub place_text : End → ℕ → List ℕ
place_text sender number = codes "end " ++ (end_name sender ++ (codes " message " ++ decimal number))

-- what is answered of the bytes of a connection
abbrev pub wire_text : WireLine → List ℕ
wire_text (wire.Yes of_a of_b delivered) = codes "yes frames " ++ (decimal of_a ++ (codes " " ++ (decimal of_b ++ (codes " delivered " ++ decimal delivered))))
wire_text (wire.No sender number broken) = codes "no " ++ (place_text sender number ++ (codes " rule " ++ breach_code broken))
wire_text (wire.NoOrder of_a of_b) = codes "no ends A " ++ (decimal of_a ++ (codes " B " ++ decimal of_b))
wire_text (wire.Unexplained sender number) = codes "no " ++ (place_text sender number ++ codes " unexplained")
wire_text (wire.TooLong sender number) = codes "too long " ++ place_text sender number
wire_text (wire.Outside sender number reason) = codes "outside " ++ (place_text sender number ++ (codes " " ++ word_of reason))
wire_text (wire.BadFrame sender number) = codes "bad frame TooManySegments " ++ place_text sender number

-- 0 for yes, 1 for each no, 2 for a message that isn't judged, for what is too long, and where no frame begins
abbrev pub wire_status : WireLine → ℕ
wire_status (wire.Yes of_a of_b delivered) = 0
wire_status (wire.TooLong sender number) = 2
wire_status (wire.Outside sender number reason) = 2
wire_status (wire.BadFrame sender number) = 2
wire_status _ = 1

-- a connection, by its number in the log of a vat
abbrev pub connection_text : ℕ → ℕ → List ℕ
connection_text connection vat = codes "connection " ++ (decimal connection ++ (codes " vat " ++ decimal vat))

-- what is answered of logs whose connections are joined
abbrev pub join_text : JoinLine → List ℕ
join_text (join.Joined vats links) = codes "joined vats " ++ (decimal vats ++ (codes " links " ++ decimal links))
join_text (join.Unmatched connection vat) = codes "unmatched " ++ connection_text connection vat
join_text (join.Ambiguous connection vat) = codes "ambiguous " ++ connection_text connection vat

-- 0 where each end has its other end, else 1
abbrev pub join_status : JoinLine → ℕ
join_status (join.Joined vats links) = 0
join_status _ = 1

-- the text of an answer
abbrev pub answer_text : Answer → List ℕ
answer_text (Finding found) = log_outcome_text found.log.vat (length found.log.records) found.outcome
answer_text (Report found) = report_text found
answer_text (Message message) = message_text message
answer_text (Order steps) = codes "order steps " ++ decimal (length steps)
answer_text NoOrder = no_order_text
answer_text (Migrated log) = codes "migrated vat " ++ (decimal log.vat ++ (codes " records " ++ decimal (length log.records)))
answer_text (Salvaged found) = codes "salvaged vat " ++ (decimal found.log.vat ++ (codes " records " ++ (decimal (length found.log.records)
    ++ (codes " bytes " ++ decimal (length (log_bytes found.log))))))
answer_text (Wire found) = wire_text found
answer_text (Join found) = join_text found
answer_text (Fault found) = fault_text found

-- the exit status of an answer
abbrev pub answer_status : Answer → ℕ
answer_status (Finding found) = outcome_status found.outcome
answer_status (Report found) = report_status found
answer_status (Message message) = 0
answer_status (Order steps) = 0
answer_status NoOrder = 1
answer_status (Migrated log) = 0
answer_status (Salvaged found) = 0
answer_status (Wire found) = wire_status found
answer_status (Join found) = join_status found
answer_status (Fault found) = fault_status found

-- a line: a text and its end
abbrev pub line : List ℕ → List ℕ
line text = text ++ (10 ∷ [])

-- a line and a status are those of an answer
abbrev pub SaysAnswer : Answer → List ℕ → ℕ → Type 0
SaysAnswer answer text status = (text ≡ line (answer_text answer)) × (status ≡ answer_status answer)
