use Rattle.std.proofs.Common.{◌≡◌, ◌+◌, ◌≤◌, ◌*◌, map, drop, fold, length}
use Rattle.std.specs.Arc.{arc_value}
use Rattle.vat_log.specs.Log.{Log}
use Rattle.picture.specs.Flow.{record_count}
use Rattle.picture.proofs.order.flow.records_in.Given as goal

abbrev pub invariant-loop-log : goal.invariant-loop-log
invariant-loop-log l = (fold (λ sum (log : Log). sum + length log.records) l.records (map arc_value (drop l.log-index l.logs)) ≡ record_count (map arc_value l.logs))
    × (l.records ≤ l.log-index * 4294967295)
