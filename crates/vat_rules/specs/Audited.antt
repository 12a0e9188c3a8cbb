-- What is audited one record after another.
use Rattle.std.specs.Prelude.{◌≡◌}
use Rattle.cap_reader.specs.declared.limits.Limits.{Limits}
use Rattle.vat_log.specs.Log.{Log}
use Rattle.vat_log.specs.Runs as runs
use Rattle.vat_log.specs.declared.body.Body.{Body}

-- the log of the records taken so far, and the limits within which their frames are read
pub record Audited : Type 0 where
  pub log : Log
  pub limits : Limits

-- with one record more
abbrev pub with_record : Body → Audited → Audited
with_record b audited = record audited { log = runs.with_record b audited.log }
