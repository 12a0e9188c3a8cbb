-- The line, the exit status and the bytes for the file that answer a log that is to be migrated.
use Rattle.std.specs.Prelude.{◌≡◌, ℕ, Bool, true, false, List, Option, Some, None, Result, Ok, Err}
use Rattle.vat_log.specs.declared.error.LogError.{LogError}
use Rattle.vat_log.specs.Log.{Log}
use Rattle.vat_log.specs.Migrated.{migrated, raised}
use Rattle.vat_log.specs.Spelling.{log_bytes}
use Rattle.report_lines.specs.declared.answer.Answer.TheVariants.{Migrated, Fault}
use Rattle.report_lines.specs.Faults.{of_log}
use Rattle.report_lines.specs.Lines.{SaysAnswer}

-- the log that is made of one: that of the later edition where it is asked for, or else one that is judged alike
abbrev pub migrated_log : Bool → Log → Log
migrated_log false log = migrated log
migrated_log true log = raised log

-- A line, a status and the bytes for the file answer what a log reads as: the log that is made of it, and its spelling; or
-- its fault, and then there are no bytes.
abbrev pub AnswersMigrated : Bool → Result Log LogError → List ℕ → ℕ → Option (List ℕ) → Type 0
AnswersMigrated later (Ok log) text status bytes = SaysAnswer (Migrated (migrated_log later log)) text status × (bytes ≡ Some (log_bytes (migrated_log later log)))
AnswersMigrated later (Err fault) text status bytes = SaysAnswer (Fault (of_log fault)) text status × (bytes ≡ None)
