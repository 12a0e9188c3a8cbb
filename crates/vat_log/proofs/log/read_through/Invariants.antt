use Rattle.std.proofs.Common.{◌≡◌, ◌-◌, length}
use Rattle.vat_log.specs.Fits.{record_limit}
use Rattle.vat_log.proofs.log.read_through.Given as goal

abbrev pub invariant-loop-fault : goal.invariant-loop-fault
invariant-loop-fault l = l.reader.bytes ≡ l.initial.reader.bytes

abbrev pub decreases-loop-fault : goal.decreases-loop-fault
decreases-loop-fault l = record_limit - length l.reader.log.records
