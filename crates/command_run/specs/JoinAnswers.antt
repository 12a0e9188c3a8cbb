-- The line, the exit status and the bytes for the folder that answer logs whose connections are to be joined.
use Rattle.std.specs.Prelude.{◌≡◌, ◌⊎◌, ℕ, ◌<◌, List, ◌++◌, length, map, codes, Option, Some, None, Result, Ok, Err, slice_get}
use Rattle.std.specs.List.{flat_map}
use Rattle.vat_log.specs.Log.{Log}
use Rattle.vat_log.specs.Spelling.{log_bytes}
use Rattle.case_book.specs.Case.{link_limit, vat_limit}
use Rattle.case_book.specs.declared.link.Link.{Link}
use Rattle.case_book.specs.declared.error.CaseError.TheVariants.{TooManyLinks, TooManyVats}
use Rattle.case_files.specs.CaseFile.{IsCaseFile}
use Rattle.case_files.specs.CaseReading.{LogsCome, Reads}
use Rattle.case_files.specs.FileNames.{AreFileNames}
use Rattle.case_files.specs.declared.case_fault.CaseFault.{CaseFault}
use Rattle.log_ends.specs.Joining.{IsFound}
use Rattle.log_ends.specs.Renumbering.{AreRenumbered, IsVatAt}
use Rattle.log_ends.specs.declared.log_end.LogEnd.{LogEnd}
use Rattle.log_ends.specs.declared.log_end.EndPair.{EndPair}
use Rattle.log_ends.specs.declared.joining.Joining.{Joining}
use Rattle.log_ends.specs.declared.joining.Joining.TheVariants as found
use Rattle.report_lines.specs.declared.answer.Answer.TheVariants.{Fault, Join}
use Rattle.report_lines.specs.declared.fault.Fault.TheVariants.{Refused}
use Rattle.report_lines.specs.declared.join_text.JoinLine.TheVariants as join
use Rattle.report_lines.specs.Faults.{of_case}
use Rattle.report_lines.specs.Lines.{SaysAnswer}
use Rattle.command_run.specs.CommandAnswers.{IsOutOfMemory}

-- ---- what is written

-- the link that the new logs have for the pair of a number: that number, and the new vats of the logs of both ends
abbrev pub IsLinkOf : List Log → EndPair → ℕ → Link → Type 0
IsLinkOf logs pair number link = (link.connection ≡ number) × IsVatAt logs pair.first.log link.a × IsVatAt logs pair.second.log link.b

-- a link for each pair
pub record AreLinks (logs : List Log) (pairs : List EndPair) (links : List Link) : Type 0 where
  pub count : length links ≡ length pairs
  pub each : (number : ℕ) (pair : EndPair) (link : Link) → slice_get pairs number ≡ Some pair → slice_get links number ≡ Some link → IsLinkOf logs pair number link

-- a file of a folder, by its path
abbrev pub in_folder : List ℕ → List ℕ → List ℕ
in_folder folder name = folder ++ (codes "/" ++ name)

-- the paths of the new logs
abbrev pub ArePaths : List ℕ → List (List ℕ) → List (List ℕ) → Type 0
ArePaths folder names paths = (files : List (List ℕ)) × (AreFileNames names files × (paths ≡ map (in_folder folder) files))

-- what a folder's files have, one behind the other: the logs with other numbers, and a case file that names them by their
-- paths and has a link for each pair
pub record AreFilesOf (folder : List ℕ) (names : List (List ℕ)) (logs : List Log) (pairs : List EndPair) (bytes : List ℕ) : Type 0 where
  pub made : List Log
  pub are_made : AreRenumbered logs pairs made
  pub links : List Link
  pub are_links : AreLinks logs pairs links
  pub paths : List (List ℕ)
  pub are_paths : ArePaths folder names paths
  pub case : List ℕ
  pub is_case : IsCaseFile case (record { logs = paths; links = links; order = None })
  pub whole : bytes ≡ flat_map log_bytes made ++ case

-- ---- what is answered

-- a line, a status and the bytes for the folder answer logs each of whose connections has both its ends: there are too many
-- for a case, or they are written
abbrev pub AnswersPairs : List ℕ → List (List ℕ) → List Log → List EndPair → List ℕ → ℕ → Option (List ℕ) → Type 0
AnswersPairs folder names logs pairs text status None = (link_limit < length pairs) × SaysAnswer (Fault (Refused TooManyLinks)) text status
AnswersPairs folder names logs pairs text status (Some bytes) =
    AreFilesOf folder names logs pairs bytes × SaysAnswer (Join (join.Joined (length logs) (length pairs))) text status

-- an end is named by its number in its log, and by the new vat of that
abbrev pub AnswersEnd : (ℕ → ℕ → List ℕ → ℕ → Type 0) → List Log → LogEnd → List ℕ → ℕ → Type 0
AnswersEnd says logs end text status = (vat : ℕ) × (IsVatAt logs end.log vat × says end.connection vat text status)

-- they answer what is found of the ends
abbrev pub AnswersFound : List ℕ → List (List ℕ) → List Log → Joining → List ℕ → ℕ → Option (List ℕ) → Type 0
AnswersFound folder names logs (found.Joined pairs) text status bytes = AnswersPairs folder names logs pairs.items text status bytes
AnswersFound folder names logs (found.Unmatched end) text status bytes =
    AnswersEnd (λ connection vat. SaysAnswer (Join (join.Unmatched connection vat))) logs end text status × (bytes ≡ None)
AnswersFound folder names logs (found.Ambiguous end) text status bytes =
    AnswersEnd (λ connection vat. SaysAnswer (Join (join.Ambiguous connection vat))) logs end text status × (bytes ≡ None)

-- they answer logs: there are too many for a case, or what is found of their ends; or memory ran out
abbrev pub AnswersLogsOf : List ℕ → List (List ℕ) → List Log → List ℕ → ℕ → Option (List ℕ) → Type 0
AnswersLogsOf folder names logs text status bytes =
    ((vat_limit < length logs) × SaysAnswer (Fault (Refused TooManyVats)) text status × (bytes ≡ None))
    ⊎ (((came : Joining) × (IsFound logs came × AnswersFound folder names logs came text status bytes)) ⊎ (IsOutOfMemory text status × (bytes ≡ None)))

-- They answer what came of the logs, or why one is none. So it is where memory ran out.
abbrev pub AnswersRead : List ℕ → List (List ℕ) → Result (List Log) CaseFault → List ℕ → ℕ → Option (List ℕ) → Type 0
AnswersRead folder names (Ok logs) text status bytes = AnswersLogsOf folder names logs text status bytes
AnswersRead folder names (Err fault) text status bytes = SaysAnswer (Fault (of_case fault)) text status × (bytes ≡ None)

-- they answer the logs that a source has under these names
abbrev pub AnswersJoin : {S : Type 0} → Reads S → S → List (List ℕ) → List ℕ → List ℕ → ℕ → Option (List ℕ) → S → Type 0
AnswersJoin gives old names folder text status bytes new =
    (came : Result (List Log) CaseFault) × (LogsCome gives names old came new × AnswersRead folder names came text status bytes)
