use Rattle.std.proofs.Common.{◌≡◌, map, drop}
use Rattle.std.specs.Arc.{arc_value}
use Rattle.picture.specs.Places.{log_by_vat}
use Rattle.picture.proofs.vat_logs.log_of.Given as goal

abbrev pub invariant-loop-log : goal.invariant-loop-log
invariant-loop-log l = log_by_vat (map arc_value l.logs) l.vat ≡ log_by_vat (map arc_value (drop l.log-index l.logs)) l.vat
