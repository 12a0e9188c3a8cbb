-- Where the run of good logs breaks the order of calls, by an order that fits.
use Rattle.std.specs.Prelude.{◌≡◌, ℕ, List, Option}
use Rattle.call_trace.specs.Findings.{logs_of, AreTrue, MayBeNamed}
use Rattle.call_trace.specs.Named.{IsRunOf}
use Rattle.call_trace.specs.Types.{Step}
use Rattle.run_model.specs.Early.{IsOrderFault}
use Rattle.vat_log.specs.Log.{Log}
use Rattle.vat_rules.specs.Audit.{Found}

-- where findings of these logs are such as name a run by an order, this is the order fault of that run
abbrev pub IsFaultBy : List Log → List ℕ → Option (ℕ × ℕ) → Type 0
IsFaultBy logs order fault = (findings : List Found) (run : List Step) → logs_of findings ≡ logs → AreTrue findings → MayBeNamed findings order → IsRunOf findings order run → IsOrderFault run fault
