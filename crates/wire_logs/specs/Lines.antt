-- From the audit's report of the two logs to the line that is answered of the two files.
use Rattle.std.specs.Prelude.{◌≡◌, ◌⊎◌, ℕ, ◌-◌, ◌==◌, ⊤, if◌then◌else◌, List, length, take, Option, Some, None, option_and_then, slice_get}
use Rattle.std.specs.List.{filter_map}
use Rattle.vat_log.specs.Log.{Log}
use Rattle.vat_log.specs.Passages.{frame_sent, frame_received}
use Rattle.case_report.specs.declared.report.Report.{Report}
use Rattle.case_report.specs.declared.report.Report.TheVariants as report
use Rattle.wire_cut.specs.declared.end.End.{End}
use Rattle.wire_cut.specs.declared.end.End.TheVariants.{A, B}
use Rattle.wire_cut.specs.Ends.{other_end}
use Rattle.wire_steps.specs.Parts.{connection, HasAll}
use Rattle.case_report.specs.declared.wire_line.WireLine.{WireLine}
use Rattle.case_report.specs.declared.wire_line.WireLine.TheVariants as line

-- how many frames the records before this number send, and how many they receive
abbrev pub sent_before : Log → ℕ → ℕ
sent_before log at = length (filter_map (frame_sent connection) (take at log.records))

abbrev pub received_before : Log → ℕ → ℕ
received_before log at = length (filter_map (frame_received connection) (take at log.records))

-- The message that a record of an end's log names: the frame of that end that it sends, or the frame of the other end that it
-- receives; of a record between frames the one that was received last before it, or the next one that is sent where none was.
abbrev pub message_by_passage : Option (List ℕ) → Option (List ℕ) → End → (sent received : ℕ) → End × ℕ
message_by_passage (Some frame) came end sent received = (end, sent)
message_by_passage None (Some frame) end sent received = (other_end end, received)
message_by_passage None None end sent received = if received == 0 then (end, sent) else (other_end end, received - 1)

abbrev pub message_by_record : Log → End → ℕ → End × ℕ
message_by_record log end at =
    message_by_passage (option_and_then (frame_sent connection) (slice_get log.records at)) (option_and_then (frame_received connection) (slice_get log.records at)) end (sent_before log at) (received_before log at)

-- the same, by the number of the vat: the first end's log, or else the second's
abbrev pub named_in : (one two : Log) → (vat at : ℕ) → End × ℕ
named_in one two vat at = if vat == one.vat then message_by_record one A at else message_by_record two B at

-- the explanation stops at some message
abbrev pub IsUnexplained : WireLine → Type 0
IsUnexplained (line.Unexplained end message) = ⊤
IsUnexplained _ = ⊥

-- two messages wait for one another
abbrev pub IsNoOrder : WireLine → Type 0
IsNoOrder (line.NoOrder of_a of_b) = ⊤
IsNoOrder _ = ⊥

-- the yes of these frames, all of which are in both logs
pub record IsYes (frames_of_a frames_of_b : List (List ℕ)) (one two : Log) (delivered : ℕ) (told : WireLine) : Type 0 where
  pub line : told ≡ line.Yes (length frames_of_a) (length frames_of_b) delivered
  pub all_of_one : HasAll frames_of_a frames_of_b one
  pub all_of_two : HasAll frames_of_b frames_of_a two

-- the line that a report of the two logs gives
abbrev pub IsLine : (frames_of_a frames_of_b : List (List ℕ)) → (one two : Log) → Report → WireLine → Type 0
IsLine frames_of_a frames_of_b one two (report.Vat vat at rule) told = told ≡ line.No (named_in one two vat at).0 (named_in one two vat at).1 rule
IsLine frames_of_a frames_of_b one two (report.OutsideVat vat at why) told = told ≡ line.Outside (named_in one two vat at).0 (named_in one two vat at).1 why
IsLine frames_of_a frames_of_b one two report.NoOrder told = IsNoOrder told
IsLine frames_of_a frames_of_b one two (report.Yes vats records delivered under_way run) told = IsYes frames_of_a frames_of_b one two delivered told ⊎ IsUnexplained told
IsLine frames_of_a frames_of_b one two _ told = IsUnexplained told
