use Rattle.std.proofs.Common.{refl}
use Rattle.std.specs.Arc.{arc_value}
use Rattle.picture.specs.Glue.Seats.{seat_of}
use Rattle.picture.proofs.Listing.{one_more}
use Rattle.picture.proofs.order.flow.seats_of.Goals as goal

pub loop-log-preserved : goal.loop-log-preserved
loop-log-preserved c =
    one_more seat_of arc_value c.args.logs.now c.loop-log.log-index c.log-item.result c.log-item.result _ c.in_ok-seat.seat
    c.loop-log.seats.items c.push.new.self.items _ c.loop-log-test.true c.log-item.is refl c.in_ok-seat.ensures c.in_ok-push.ensures.items c.loop-log.invariant
