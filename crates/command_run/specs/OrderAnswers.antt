-- The line, the exit status and the bytes for the file that answer a case whose order is asked for.
use Rattle.std.specs.Prelude.{◌≡◌, ◌≢◌, ℕ, List, Option, Some, None, Result, Ok, Err}
use Rattle.vat_log.specs.Log.{Log}
use Rattle.merge_order.specs.Fits.{IsFitting, TakesLeast}
use Rattle.merge_order.specs.Spelling.{spelling}
use Rattle.case_files.specs.declared.case_fault.CaseFault.{CaseFault}
use Rattle.case_files.specs.declared.case_fault.CaseFault.TheVariants as fault
use Rattle.case_files.specs.declared.case_reading.ReadCase.{ReadCase}
use Rattle.report_lines.specs.declared.answer.Answer.TheVariants.{Order, NoOrder, Fault}
use Rattle.report_lines.specs.Faults.{of_case}
use Rattle.report_lines.specs.Lines.{SaysAnswer}

-- A line, a status and the bytes for the file answer the logs of a case: the order that takes the smallest vat number
-- that may come at each step, and its spelling; or that no order fits, and then there are no bytes. That the order fits
-- follows from how it is taken, and is said beside it.
abbrev pub AnswersLogs : List Log → List ℕ → ℕ → Option (List ℕ) → Type 0
AnswersLogs logs text status (Some bytes) =
    (order : List ℕ) × (TakesLeast logs order × IsFitting logs order × (bytes ≡ spelling order) × SaysAnswer (Order order) text status)
AnswersLogs logs text status None = ((order : List ℕ) → IsFitting logs order → ⊥) × SaysAnswer NoOrder text status

-- A line, a status and the bytes for the file answer what came of a case. Running out of memory is no answer of a case.
abbrev pub AnswersCase : Result ReadCase CaseFault → List ℕ → ℕ → Option (List ℕ) → Type 0
AnswersCase (Ok came) text status bytes = AnswersLogs came.case.logs text status bytes
AnswersCase (Err found) text status bytes = (found ≢ fault.OutOfMemory) × SaysAnswer (Fault (of_case found)) text status × (bytes ≡ None)
