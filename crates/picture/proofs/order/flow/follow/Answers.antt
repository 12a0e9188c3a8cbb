use Rattle.std.proofs.Common.{◌<◌, length, arith}
use Rattle.picture.specs.Glue.Seats.{followed}
use Rattle.picture.proofs.Flowing.{set_further}
use Rattle.picture.proofs.order.flow.follow.Goals as goal

pub loop-seat-preserved : goal.loop-seat-preserved
loop-seat-preserved c =
    let lt : c.loop-seat.seat-index < length c.loop-seat.seats = omega arith in
    set_further (followed c.args.turn) c.args.seats.now c.loop-seat.seats c.loop-seat.seat-index c.follow.new.self _ lt c.loop-seat.invariant c.in_ok-follow.ensures
