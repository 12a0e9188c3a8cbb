-- The line, the exit status and the bytes for the file that answer a log of which the whole records are wanted.
use Rattle.std.specs.Prelude.{◌≡◌, ◌⊎◌, ℕ, List, Option, Some, None, Err}
use Rattle.vat_log.specs.declared.error.LogError.{LogError}
use Rattle.vat_log.specs.declared.log.Salvaged.{Salvaged}
use Rattle.vat_log.specs.Reading.{header_of}
use Rattle.vat_log.specs.Runs.{IsLongestRun}
use Rattle.vat_log.specs.Spelling.{log_bytes}
use Rattle.report_lines.specs.declared.answer.Answer.TheVariants as answer
use Rattle.report_lines.specs.Faults.{of_log}
use Rattle.report_lines.specs.Lines.{SaysAnswer}

-- they are the log of the longest run of whole records with which the bytes begin, and its spelling
abbrev pub AnswersLongestRun : List ℕ → List ℕ → ℕ → Option (List ℕ) → Type 0
AnswersLongestRun came text status bytes = (found : Salvaged) × (IsLongestRun came found.log × SaysAnswer (answer.Salvaged found) text status × (bytes ≡ Some (log_bytes found.log)))

-- no log begins so: they are the fault of the header, and there are no bytes
abbrev pub AnswersHeader : List ℕ → List ℕ → ℕ → Option (List ℕ) → Type 0
AnswersHeader came text status bytes = (fault : LogError) × ((header_of came ≡ Err fault) × SaysAnswer (answer.Fault (of_log fault)) text status × (bytes ≡ None))

-- a line, a status and the bytes for the file answer these bytes
abbrev pub AnswersSalvaged : List ℕ → List ℕ → ℕ → Option (List ℕ) → Type 0
AnswersSalvaged came text status bytes = AnswersLongestRun came text status bytes ⊎ AnswersHeader came text status bytes
