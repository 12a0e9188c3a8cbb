use Rattle.std.proofs.Common.{◌≡◌, take}
use Rattle.std.specs.Prelude.{map}
use Rattle.std.specs.Arc.{arc_value}
use Rattle.merge_order.specs.Fits.{begin}
use Rattle.merge_order.proofs.order_progress.Progress.new.Given as goal

abbrev pub invariant-loop-log : goal.invariant-loop-log
invariant-loop-log l = l.cursors.items ≡ begin (map arc_value (take l.log-index l.logs))
