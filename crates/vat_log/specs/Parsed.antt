-- A log and its bytes.
use Rattle.std.specs.Prelude.{◌≡◌, ℕ, List, Ok}
use Rattle.vat_log.specs.Fits.{record_limit, LogFits}
use Rattle.vat_log.specs.Log.{Log}
use Rattle.vat_log.specs.Reading.{log_of}
use Rattle.vat_log.specs.Spelling.{log_bytes}

-- Parsing these bytes gives the log, and they are the one spelling of it.
pub record IsParsed (bytes : List ℕ) (log : Log) : Type 0 where
  pub read : log_of bytes ≡ Ok log
  pub spelled : bytes ≡ log_bytes log
  pub fits : LogFits record_limit log
