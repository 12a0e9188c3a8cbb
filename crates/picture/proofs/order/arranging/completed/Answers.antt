use Rattle.std.specs.Arc.{arc_value}
use Rattle.picture.specs.Places.{steps_left}
use Rattle.picture.proofs.Listing.{several_more}
use Rattle.picture.proofs.order.arranging.completed.Goals as goal

pub loop-log-preserved : goal.loop-log-preserved
loop-log-preserved c =
    several_more (steps_left c.args.order.now) arc_value c.args.logs.now c.loop-log.log-index c.log-item.result c.log-item.result c.deref.result.now c.loop-log.all.items
    c.in_ok-all-2.all.items _ c.loop-log-test.true c.log-item.is c.deref.ensures c.in_ok-all-2.ensures c.loop-log.invariant
