use Rattle.std.specs.Prelude.{map}
use Rattle.std.specs.Arc.{arc_value}
use Rattle.merge_order.proofs.Steps.{rising_begin}
use Rattle.merge_order.proofs.Scheduling.{queued_begin}
use Rattle.merge_order.proofs.schedule.Schedule.new.Goals as goal

pub settle-requires : goal.settle-requires
settle-requires c =
    queued_begin _ _ _ (rising_begin (map arc_value c.args.logs.now) _ c.in_ok-progress.ensures c.requires) c.in_ok-ready.ensures
