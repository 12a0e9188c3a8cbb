use Rattle.std.proofs.Common.{◌≡◌, ◌-◌, length}
use Rattle.byte_pieces.specs.Coming.{ComesOn}
use Rattle.cap_reader.specs.Defaults.{default_limits}
use Rattle.vat_log.specs.Fits.{record_limit}
use Rattle.vat_rules.proofs.Auditing.{audited}
use Rattle.log_lane.proofs.one_log.audit_stream.Given as goal

abbrev pub invariant-loop-audit : goal.invariant-loop-audit
invariant-loop-audit g l = record {
  audited : l.audit ≡ audited l.stream.log default_limits;
  on : ComesOn l.initial.stream.came l.stream.came;
}

abbrev pub decreases-loop-audit : goal.decreases-loop-audit
decreases-loop-audit g l = record_limit - length l.stream.log.records
