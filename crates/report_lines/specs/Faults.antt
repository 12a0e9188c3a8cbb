-- The text and the exit status of each fault.
use Rattle.std.specs.Prelude.{ℕ, List, ◌++◌, codes}
use Rattle.std.specs.Fmt.{decimal}
use Rattle.cap_frame.specs.declared.frame_error.FrameError.{FrameError}
use Rattle.cap_frame.specs.declared.frame_error.FrameError.TheVariants as bad_frame
use Rattle.cap_reader.specs.declared.read_error.ReadError.{ReadError}
use Rattle.cap_reader.specs.declared.read_error.ReadError.TheVariants as bad_read
use Rattle.rpc_view.specs.declared.view_error.Outside.{Outside as OutsideOf}
use Rattle.rpc_view.specs.declared.view_error.Outside.TheVariants as outside
use Rattle.rpc_view.specs.declared.view_error.ViewError.{ViewError}
use Rattle.rpc_view.specs.declared.view_error.ViewError.TheVariants as bad_view
use Rattle.vat_log.specs.declared.error.LogError.{LogError}
use Rattle.vat_log.specs.declared.error.LogError.TheVariants as bad_log
use Rattle.merge_order.specs.declared.error.OrderError.{OrderError}
use Rattle.merge_order.specs.declared.error.OrderError.TheVariants as bad_order
use Rattle.case_book.specs.declared.error.CaseError.{CaseError}
use Rattle.case_book.specs.declared.error.CaseError.TheVariants as refusal
use Rattle.case_book.specs.declared.ties.TieFault.{TieFault}
use Rattle.case_book.specs.declared.ties.TieFault.TheVariants as tie
use Rattle.case_files.specs.declared.source.SourceError.{SourceError}
use Rattle.case_files.specs.declared.source.SourceError.TheVariants as source
use Rattle.case_files.specs.declared.case_fault.CaseFault.{CaseFault}
use Rattle.case_files.specs.declared.case_fault.CaseFault.TheVariants as bad_case
use Rattle.report_lines.specs.declared.fault.Fault.{Fault}
use Rattle.report_lines.specs.declared.fault.Fault.TheVariants.{CannotRead, OutOfMemory, BadHex, Frame, Read, Outside, BadTag, Log, Order, Form, Refused, Untied}

-- ---- names

-- why bytes aren't a frame
abbrev pub frame_fault_name : FrameError → List ℕ
frame_fault_name bad_frame.Short = codes "Short"
frame_fault_name bad_frame.TooManySegments = codes "TooManySegments"
frame_fault_name bad_frame.Trailing = codes "Trailing"
frame_fault_name bad_frame.NoRoot = codes "NoRoot"

-- why a pointer can't be followed
abbrev pub read_fault_name : ReadError → List ℕ
read_fault_name bad_read.OutOfSegment = codes "OutOfSegment"
read_fault_name bad_read.NoSegment = codes "NoSegment"
read_fault_name bad_read.BadPad = codes "BadPad"
read_fault_name bad_read.WrongKind = codes "WrongKind"
read_fault_name bad_read.NoZero = codes "NoZero"
read_fault_name bad_read.Reserved = codes "Reserved"
read_fault_name bad_read.TooDeep = codes "TooDeep"
read_fault_name bad_read.TooMuch = codes "TooMuch"
read_fault_name bad_read.OutOfMemory = codes "OutOfMemory"

-- what a message has that is outside of what is read
abbrev pub outside_name : OutsideOf → List ℕ
outside_name outside.Level = codes "Level"
outside_name outside.Unimplemented = codes "Unimplemented"
outside_name outside.LaterField = codes "LaterField"

-- why bytes aren't a log, with the offset where there is one
abbrev pub log_fault_name : LogError → List ℕ
log_fault_name bad_log.BadMagic = codes "BadMagic"
log_fault_name (bad_log.Short at) = codes "Short " ++ decimal at
log_fault_name (bad_log.BadKind at) = codes "BadKind " ++ decimal at
log_fault_name (bad_log.ZeroNumber at) = codes "ZeroNumber " ++ decimal at
log_fault_name bad_log.TooLong = codes "TooLong"
log_fault_name bad_log.OutOfMemory = codes "OutOfMemory"

-- why bytes aren't an order, with the offset where there is one
abbrev pub order_fault_name : OrderError → List ℕ
order_fault_name bad_order.BadMagic = codes "BadMagic"
order_fault_name (bad_order.Short at) = codes "Short " ++ decimal at
order_fault_name bad_order.OutOfMemory = codes "OutOfMemory"

-- why logs and links make no case, with the vat or the connection
abbrev pub refusal_name : CaseError → List ℕ
refusal_name refusal.TooManyVats = codes "TooManyVats"
refusal_name (refusal.SameVat vat) = codes "SameVat " ++ decimal vat
refusal_name refusal.TooManyLinks = codes "TooManyLinks"
refusal_name (refusal.SameLink connection) = codes "SameLink " ++ decimal connection
refusal_name refusal.OutOfMemory = codes "OutOfMemory"

-- why they don't tie up, with the connection
abbrev pub tie_fault_name : TieFault → List ℕ
tie_fault_name (tie.MissingLog connection) = codes "MissingLog " ++ decimal connection
tie_fault_name (tie.SameEnds connection) = codes "SameEnds " ++ decimal connection

-- ---- faults

-- the text of a fault
abbrev pub fault_text : Fault → List ℕ
fault_text CannotRead = codes "cannot read"
fault_text OutOfMemory = codes "out of memory"
fault_text BadHex = codes "bad hex"
fault_text (Frame found) = codes "bad frame " ++ frame_fault_name found
fault_text (Read found) = codes "bad read " ++ read_fault_name found
fault_text (Outside found) = codes "outside " ++ outside_name found
fault_text BadTag = codes "bad tag"
fault_text (Log found) = codes "bad log " ++ log_fault_name found
fault_text (Order found) = codes "bad order " ++ order_fault_name found
fault_text Form = codes "bad case"
fault_text (Refused found) = codes "bad case " ++ refusal_name found
fault_text (Untied found) = codes "bad case " ++ tie_fault_name found

-- its exit status: 3 where memory ran out, else 2
abbrev pub fault_status : Fault → ℕ
fault_status OutOfMemory = 3
fault_status _ = 2

-- ---- the faults that the calls below answer; out of memory is one fault, wherever it was met

abbrev pub of_source : SourceError → Fault
of_source source.CannotRead = CannotRead
of_source source.OutOfMemory = OutOfMemory

abbrev pub of_log : LogError → Fault
of_log bad_log.OutOfMemory = OutOfMemory
of_log found = Log found

abbrev pub of_view : ViewError → Fault
of_view (bad_view.Read found) = Read found
of_view (bad_view.Outside found) = Outside found
of_view bad_view.BadTag = BadTag
of_view bad_view.OutOfMemory = OutOfMemory
of_view (bad_view.Frame found) = Frame found

abbrev pub of_case : CaseFault → Fault
of_case bad_case.CannotRead = CannotRead
of_case bad_case.Form = Form
of_case (bad_case.Log found) = Log found
of_case (bad_case.Order found) = Order found
of_case (bad_case.Refused found) = Refused found
of_case (bad_case.Untied found) = Untied found
of_case bad_case.OutOfMemory = OutOfMemory
