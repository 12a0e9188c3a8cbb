use Rattle.std.proofs.Common.{◌≡◌, take}
use Rattle.authority.specs.Records.{record_numbers_of}
use Rattle.run_model.proofs.Numbers.{IsNumbered}
use Rattle.authority.proofs.step_records.record_numbers.Given as goal

abbrev pub invariant-loop-step : goal.invariant-loop-step
invariant-loop-step l = IsNumbered l.step-items l.step-index l.counts × (l.numbers.items ≡ record_numbers_of (take l.step-index l.step-items))
