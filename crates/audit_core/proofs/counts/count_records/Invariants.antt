use Rattle.std.proofs.Common.{◌≡◌, ◌≤◌, ◌*◌, length, map, take}
use Rattle.std.specs.Arc.{arc_value}
use Rattle.audit_core.specs.Glue.{HoldsBefore}
use Rattle.audit_core.specs.Report.{records_in}
use Rattle.audit_core.proofs.counts.count_records.Given as goal

abbrev pub invariant-loop-log : goal.invariant-loop-log
invariant-loop-log l =
    (l.count ≡ records_in (map arc_value (take l.log-index l.logs))) × (l.count ≤ l.log-index * 4294967295) × HoldsBefore (λ log. length log.records ≤ 4294967295) (map arc_value l.logs) l.log-index
