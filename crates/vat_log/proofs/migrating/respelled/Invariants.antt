use Rattle.std.proofs.Common.{◌≡◌, ◌-◌, length}
use Rattle.vat_log.specs.Fits.{record_limit}
use Rattle.vat_log.specs.Spelling.{log_bytes}
use Rattle.vat_log.proofs.Respelled.{in_version}
use Rattle.vat_log.proofs.migrating.respelled.Given as goal

abbrev pub invariant-loop-out : goal.invariant-loop-out
invariant-loop-out l = record {
  same : l.reader.bytes ≡ l.initial.reader.bytes;
  so_far : l.out.items ≡ log_bytes (in_version l.version l.reader.log);
}

abbrev pub decreases-loop-out : goal.decreases-loop-out
decreases-loop-out l = record_limit - length l.reader.log.records
