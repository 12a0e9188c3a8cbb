-- A law of logs that are refused: what comes behind the first record that isn't good changes nothing.
use Rattle.std.specs.Prelude.{List}
use Rattle.cap_reader.specs.declared.limits.Limits.{Limits}
use Rattle.vat_log.specs.Log.{Log}
use Rattle.vat_log.specs.Runs.{with_records}
use Rattle.vat_log.specs.declared.body.Body.{Body}
use Rattle.vat_rules.specs.declared.outcome.Outcome.{Outcome}
use Rattle.vat_rules.specs.Audit.{IsTrueOf}

-- where this is the outcome of a log, it is the outcome of each that begins so
abbrev pub StaysSo : Log → Limits → Outcome → Type 0
StaysSo log limits outcome = IsTrueOf log limits outcome → (more : List Body) → IsTrueOf (with_records more log) limits outcome
