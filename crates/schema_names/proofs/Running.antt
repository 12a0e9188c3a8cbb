-- One reading after another is paid for as they are.
use Rattle.std.proofs.Common.{◌≡◌, ℕ, Result}
use Rattle.cap_reader.specs.declared.read_error.ReadError.TheVariants.{TooMuch}
use Rattle.cap_reader.specs.Reading.{Reading, and_then}
use Rattle.cap_reader.proofs.Running as visits
use Rattle.schema_names.specs.declared.schema_error.SchemaError.{SchemaError}
use Rattle.schema_names.specs.declared.schema_error.SchemaError.TheVariants as errors
use Rattle.schema_names.specs.Reading.{run_schema}

-- a reading that goes by the value of one that was paid for
abbrev pub and_run : {A B : Type 0} → Result A SchemaError × ℕ → (A → Reading SchemaError B) → Result B SchemaError × ℕ
and_run ran next = visits.going_on (errors.Read TooMuch) ran.0 ran.1 next

pub run_then : {A B : Type 0} (reading : Reading SchemaError A) (next : A → Reading SchemaError B) (words : ℕ) → run_schema (and_then reading next) words ≡ and_run (run_schema reading words) next
run_then reading next words = visits.run_then (errors.Read TooMuch) reading next words
