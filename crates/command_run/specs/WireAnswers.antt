-- The line, the exit status and the bytes for the folder that answer the bytes of a connection.
use Rattle.std.specs.Prelude.{◌≡◌, ◌⊎◌, ℕ, List, ◌++◌, Option, Some, None, Result, Ok, Err, codes}
use Rattle.std.specs.Arc.{arc_value}
use Rattle.vat_log.specs.Spelling.{log_bytes}
use Rattle.case_files.specs.CaseFile.{IsCaseFile, Listed, link_case}
use Rattle.case_files.specs.CaseReading.{Reads}
use Rattle.case_files.specs.declared.source.SourceError.{SourceError}
use Rattle.wire_logs.specs.Found.{IsAnswer}
use Rattle.case_report.specs.declared.wire_answer.WireAnswer.{WireAnswer}
use Rattle.case_report.specs.declared.wire_answer.WireLogs.{WireLogs}
use Rattle.report_lines.specs.declared.answer.Answer.TheVariants.{Fault, Wire}
use Rattle.report_lines.specs.Faults.{of_source}
use Rattle.report_lines.specs.Lines.{SaysAnswer}
use Rattle.command_run.specs.declared.commands.wire_files.Capture.{Capture}
use Rattle.command_run.specs.CommandAnswers.{IsOutOfMemory}

-- What comes of reading what both ends sent, by the names of two files: the second isn't asked for where the first can't be
-- read.
abbrev pub ReadsBoth : {S : Type 0} → Reads S → S → List ℕ → List ℕ → Result Capture SourceError → S → Type 0
ReadsBoth {S} gives old one another (Ok came) new = (between : S) × (gives old one (Ok came.a) between × gives between another (Ok came.b) new)
ReadsBoth {S} gives old one another (Err fault) new =
    gives old one (Err fault) new ⊎ ((first : List ℕ) × ((between : S) × (gives old one (Ok first) between × gives between another (Err fault) new)))

-- what the case file of a folder says: the logs of both ends stand beside it
abbrev pub folder_case : List ℕ → Listed
folder_case folder = link_case (folder ++ codes "/A.log") (folder ++ codes "/B.log")

-- Where a folder is asked for and there are logs, these bytes are written: the log of the first end, that of the second, and
-- their case file.
abbrev pub AreWritten : Option (List ℕ) → Option WireLogs → Option (List ℕ) → Type 0
AreWritten None logs bytes = bytes ≡ None
AreWritten (Some folder) None bytes = bytes ≡ None
AreWritten (Some folder) (Some logs) bytes =
    (case : List ℕ) × (IsCaseFile case (folder_case folder) × (bytes ≡ Some (log_bytes (arc_value logs.log_of_a) ++ (log_bytes (arc_value logs.log_of_b) ++ case))))

-- A line, a status and the bytes for the folder answer what came of reading both files: what is found of a connection, or why
-- one of them can't be read, and then there are no bytes. So it is where memory ran out.
abbrev pub AnswersCapture : Option (List ℕ) → Result Capture SourceError → List ℕ → ℕ → Option (List ℕ) → Type 0
AnswersCapture folder (Ok came) text status bytes =
    ((found : WireAnswer) × (IsAnswer came.a came.b found × SaysAnswer (Wire found.line) text status × AreWritten folder found.logs bytes)) ⊎ (IsOutOfMemory text status × (bytes ≡ None))
AnswersCapture folder (Err fault) text status bytes = SaysAnswer (Fault (of_source fault)) text status × (bytes ≡ None)

-- they answer the files that a source has under two names
abbrev pub AnswersWire : {S : Type 0} → Reads S → S → List ℕ → List ℕ → Option (List ℕ) → List ℕ → ℕ → Option (List ℕ) → S → Type 0
AnswersWire gives old one another folder text status bytes new =
    (came : Result Capture SourceError) × (ReadsBoth gives old one another came new × AnswersCapture folder came text status bytes)
