-- Why a case isn't audited.
use Rattle.std.specs.Prelude.{◌≡◌, ℕ, ◌==◌, Option, Some, None, if◌then◌else◌, nat_lt}
use Rattle.std.specs.Option.{option_map}
use Rattle.case_book.specs.Case.{Contents}
use Rattle.case_book.specs.Ties.{tie_fault_of}
use Rattle.case_book.specs.declared.ties.TieFault.{TieFault}
use Rattle.case_book.specs.declared.ties.TieFault.TheVariants as tie
use Rattle.audit_core.specs.declared.error.AuditError.{AuditError}
use Rattle.audit_core.specs.declared.error.AuditError.TheVariants.{NoWorkers, TooManyWorkers, MissingLog, SameEnds, OutOfMemory}

-- at most so many workers
abbrev pub worker_limit : ℕ
worker_limit = 64

-- a case that doesn't tie up
abbrev pub tie_refusal : TieFault → AuditError
tie_refusal (tie.MissingLog connection) = MissingLog connection
tie_refusal (tie.SameEnds connection) = SameEnds connection

-- no worker, or too many; else the case doesn't tie up
unfoldable pub refusal_of : Contents → ℕ → Option AuditError
refusal_of held workers =
    if workers == 0 then Some NoWorkers else
    if nat_lt worker_limit workers then Some TooManyWorkers else
    option_map tie_refusal (tie_fault_of held)

-- why a case isn't audited; where memory was wanted there is no other reason
abbrev pub IsRefusal : Contents → ℕ → AuditError → Type 0
IsRefusal held workers OutOfMemory = refusal_of held workers ≡ None
IsRefusal held workers error = refusal_of held workers ≡ Some error
