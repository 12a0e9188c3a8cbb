-- The logs with which bytes begin: where a log is cut or has a fault in its middle, the records in front of that are
-- still whole.
use Rattle.std.specs.Prelude.{◌≡◌, ℕ, ◌≤◌, List, [], ◌∷◌, ◌++◌, length, Err}
use Rattle.vat_log.specs.declared.body.Body.{Body}
use Rattle.vat_log.specs.declared.error.LogError.{LogError}
use Rattle.vat_log.specs.declared.error.LogError.TheVariants.{OutOfMemory}
use Rattle.vat_log.specs.Fits.{record_limit, LogFits}
use Rattle.vat_log.specs.Log.{Log}
use Rattle.vat_log.specs.Reading.{log_of}
use Rattle.vat_log.specs.Spelling.{log_bytes}

-- The bytes begin with this log: its header and each of its records, whole.
pub record BeginsWith (bytes : List ℕ) (log : Log) : Type 0 where
  pub rest : List ℕ
  pub parts : bytes ≡ log_bytes log ++ rest
  pub fits : LogFits record_limit log

-- The bytes begin with this log, and with none that has more records.
pub record IsLongestRun (bytes : List ℕ) (log : Log) : Type 0 where
  pub begins : BeginsWith bytes log
  pub longest : (other : Log) → BeginsWith bytes other → length other.records ≤ length log.records

-- The second log is the first with more records behind its own, or none.
pub record GoesOn (log : Log) (longer : Log) : Type 0 where
  pub version : longer.version ≡ log.version
  pub vat : longer.vat ≡ log.vat
  pub more : List Body
  pub records : longer.records ≡ log.records ++ more

-- the log with more records behind its own
abbrev pub with_records : List Body → Log → Log
with_records more log = record log { records = log.records ++ more }

-- the log with one more record
abbrev pub with_record : Body → Log → Log
with_record body log = record log { records = log.records ++ body ∷ [] }

-- the bytes of a log, and the log that was read of them so far
pub record ReadSoFar : Type 0 where
  pub bytes : List ℕ
  pub log : Log

-- Why reading ends before the end: memory was refused; or this is the fault of the bytes, and what was read is all that
-- stands whole in front of it.
abbrev pub StopsBy : LogError → ReadSoFar → Type 0
StopsBy OutOfMemory read = Unit {0}
StopsBy e read = (log_of read.bytes ≡ Err e) × IsLongestRun read.bytes read.log
