-- The lines and the exit status that answer a log whose records are asked for.
use Rattle.std.specs.Prelude.{◌≡◌, ◌⊎◌, ℕ, ◌+◌, List, [], ◌∷◌, ◌++◌, take, drop, unwrap_or, Option, Some, None, Result, Ok, Err}
use Rattle.vat_log.specs.declared.body.Body.{Body}
use Rattle.vat_log.specs.declared.body.Body.TheVariants.{Send, Receive}
use Rattle.vat_log.specs.declared.error.LogError.{LogError}
use Rattle.vat_log.specs.Log.{Log}
use Rattle.vat_log.specs.Reading.{header_of, log_of}
use Rattle.vat_log.specs.Runs.{BeginsWith, IsLongestRun}
use Rattle.cap_reader.specs.Defaults.{default_limits}
use Rattle.rpc_view.specs.declared.edition.Edition.{Edition}
use Rattle.rpc_view.specs.Message.{message_of_bytes}
use Rattle.vat_rules.specs.Audit.{edition_of}
use Rattle.report_lines.specs.declared.answer.Answer.{Answer}
use Rattle.report_lines.specs.declared.answer.Answer.TheVariants.{Fault}
use Rattle.report_lines.specs.declared.fault.Fault.TheVariants.{OutOfMemory}
use Rattle.byte_pieces.specs.Coming.{CameSoFar}
use Rattle.case_files.specs.CaseReading.{Read}
use Rattle.case_files.specs.Opening.{IsOf}
use Rattle.case_files.specs.declared.source.SourceError.{SourceError}
use Rattle.report_lines.specs.Faults.{of_log, of_source}
use Rattle.report_lines.specs.Lines.{SaysAnswer, line}
use Rattle.report_lines.specs.RecordText.{record_text}
use Rattle.command_run.specs.Answers.{view_answer}

-- what is answered to the frame that a record sends or receives, if it does, where it is read by an edition
abbrev pub message_answer : Edition → Body → Option Answer
message_answer edition (Send connection call references frame) = Some (view_answer (message_of_bytes edition frame default_limits))
message_answer edition (Receive connection call references frame) = Some (view_answer (message_of_bytes edition frame default_limits))
message_answer edition event = None

-- the line of a record, with its number
abbrev pub record_line : Edition → ℕ → Body → List ℕ
record_line edition at event = line (record_text at event (message_answer edition event))

-- the lines of records that follow one another, of which the first has this number
abbrev pub record_lines : Edition → ℕ → List Body → List ℕ
record_lines edition at [] = []
record_lines edition at (event ∷ events) = record_line edition at event ++ record_lines edition (at + 1) events

-- the first of a list, as many as are wanted, or all
abbrev pub first_ones : Option ℕ → List Body → List Body
first_ones None events = events
first_ones (Some many) events = take many events

-- the number of the first record that is asked for
abbrev pub first_number : Option ℕ → ℕ
first_number first = unwrap_or first 0

-- the records that are asked for: from that one on, and as many as are wanted
abbrev pub chosen_records : Option ℕ → Option ℕ → List Body → List Body
chosen_records first many events = first_ones many (drop (first_number first) events)

-- the lines of a log's records that are asked for, each with its number in the log, its frame read by the log's edition
abbrev pub listing : Option ℕ → Option ℕ → Log → List ℕ
listing first many log = record_lines (edition_of log) (first_number first) (chosen_records first many log.records)

-- what stands behind the lines of all whole records, and the status: nothing, and 0; or the fault behind these records, and its status
abbrev pub EndsListing : Result Log LogError → List ℕ → ℕ → Type 0
EndsListing (Ok log) last status = (last ≡ []) × (status ≡ 0)
EndsListing (Err fault) last status = SaysAnswer (Fault (of_log fault)) last status

-- each whole record that is asked for was listed, and behind them the fault is told, if there is one
abbrev pub ListsAll : Option ℕ → Option ℕ → List ℕ → List ℕ → ℕ → Type 0
ListsAll first many bytes text status = (log : Log) × ((last : List ℕ) × IsLongestRun bytes log × EndsListing (log_of bytes) last status
    × (text ≡ listing first many log ++ last))

-- memory ran out: behind the lines of some of them, from the first on, that is told
abbrev pub ListsSome : Option ℕ → Option ℕ → List ℕ → List ℕ → ℕ → Type 0
ListsSome first many bytes text status = (log : Log) × ((last : List ℕ) × BeginsWith bytes log × SaysAnswer (Fault OutOfMemory) last status
    × (text ≡ listing first many log ++ last))

-- no log begins so: the fault of the header is told alone
abbrev pub ListsNone : List ℕ → List ℕ → ℕ → Type 0
ListsNone bytes text status = (fault : LogError) × ((header_of bytes ≡ Err fault) × SaysAnswer (Fault (of_log fault)) text status)

-- Lines and a status answer the bytes of a log whose records are asked for. The status says whether the log is whole, whichever
-- records are asked for, unless memory ran out.
abbrev pub AnswersRecords : Option ℕ → Option ℕ → List ℕ → List ℕ → ℕ → Type 0
AnswersRecords first many bytes text status = ListsAll first many bytes text status ⊎ ListsSome first many bytes text status ⊎ ListsNone bytes text status

-- these are lines of records with which the bytes of a log begin, or of none
abbrev pub AreListed : Option ℕ → Option ℕ → List ℕ → List ℕ → Type 0
AreListed first many bytes lines = (lines ≡ []) ⊎ ((log : Log) × BeginsWith bytes log × (lines ≡ listing first many log))

-- The log can't be read to its end: behind the lines of records that came before that, or of none, the source's fault is told.
-- What came is of what reading the log's name gives, as far as that is known.
abbrev pub ListsBefore : Option Read → Option ℕ → Option ℕ → SourceError → List ℕ → ℕ → Type 0
ListsBefore known first many fault text status = (came : CameSoFar) × ((lines : List ℕ) × ((last : List ℕ) × IsOf known came
    × AreListed first many came.bytes lines × SaysAnswer (Fault (of_source fault)) last status × (text ≡ lines ++ last)))
