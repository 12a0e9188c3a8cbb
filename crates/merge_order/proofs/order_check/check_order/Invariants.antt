use Rattle.std.proofs.Common.{◌≡◌, ◌+◌, drop}
use Rattle.std.specs.Prelude.{map}
use Rattle.std.specs.Option.{option_map}
use Rattle.std.specs.Arc.{arc_value}
use Rattle.merge_order.specs.Fits.{begin, fault_from}
use Rattle.merge_order.specs.Glue.{came_by_all}
use Rattle.merge_order.proofs.order_check.check_order.Given as goal

abbrev pub invariant-loop-step : goal.invariant-loop-step
invariant-loop-step l = (fault_from (begin (map arc_value l.logs)) l.vats ≡ option_map (λ k. l.step + k) (fault_from l.progress (drop l.step l.vats))) × (came_by_all l.progress ≡ l.step)
