use Rattle.std.proofs.Common.{◌≡◌, ◌-◌, length}
use Rattle.vat_log.specs.Fits.{record_limit}
use Rattle.vat_log.specs.Runs.{with_records}
use Rattle.vat_log.proofs.log.records_left.Given as goal

abbrev pub invariant-loop-entry : goal.invariant-loop-entry
invariant-loop-entry l = (l.reader.bytes ≡ l.initial.reader.bytes) × (l.reader.log ≡ with_records l.records.items l.initial.reader.log)

abbrev pub decreases-loop-entry : goal.decreases-loop-entry
decreases-loop-entry l = record_limit - length l.reader.log.records
