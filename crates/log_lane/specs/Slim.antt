-- The logs of a case whose records are gone: each is known by what its audit found.
use Rattle.std.specs.Prelude.{List, map}
use Rattle.vat_log.specs.Log.{Log}
use Rattle.vat_rules.specs.Audit.{Found}

-- the logs that findings are of
abbrev pub logs_audited : List Found → List Log
logs_audited findings = map (λ found. found.log) findings
