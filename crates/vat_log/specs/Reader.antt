-- For the code's contracts, and no part of the meaning: how far the bytes of a log were read.
use Rattle.std.specs.Prelude.{◌≡◌, ℕ, ◌≤◌, ◌-◌, List, ◌++◌, length, drop, Option, Some, None, Ok, Err}
use Rattle.std.specs.Int.{w32}
use Rattle.vat_log.specs.declared.error.LogError.{LogError}
use Rattle.vat_log.specs.Fits.{LogFits}
use Rattle.vat_log.specs.Log.{Log}
use Rattle.vat_log.specs.Reading.{◌>>=◌, number_at, records_at, version_at, log_of}
use Rattle.vat_log.specs.Runs.{ReadSoFar, IsLongestRun}
use Rattle.vat_log.specs.Spelling.{log_bytes}

-- The log was read up to this place, and what is left gives the records that follow its own.
pub record IsReadTo (limit : ℕ) (bytes : List ℕ) (log : Log) (at : ℕ) : Type 0 where
  pub parts : bytes ≡ log_bytes log ++ drop at bytes
  pub places : length (log_bytes log) ≡ at
  pub within : at ≤ length bytes
  pub fits : LogFits limit log
  pub version : version_at bytes ≡ Ok log.version
  pub vat : number_at w32 bytes 8 ≡ Ok (log.vat, 12)
  pub so_far : (records_at log.version bytes (limit - length log.records) at >>= λ others. Ok (log.records ++ others)) ≡ records_at log.version bytes limit 12

-- how reading ended: at the end of the bytes, where all was read; or by a fault of theirs
abbrev pub EndsBy : Option LogError → ReadSoFar → Type 0
EndsBy None read = (log_of read.bytes ≡ Ok read.log) × IsLongestRun read.bytes read.log
EndsBy (Some e) read = (log_of read.bytes ≡ Err e) × IsLongestRun read.bytes read.log
