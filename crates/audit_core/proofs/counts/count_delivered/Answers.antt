use Rattle.std.proofs.Common.{arith}
use Rattle.audit_core.proofs.Counting.{delivered_so_far}
use Rattle.audit_core.proofs.Places.{at_index}
use Rattle.audit_core.proofs.counts.count_delivered.Goals as goal

pub delivered_in-count-requires : goal.delivered_in-count-requires
delivered_in-count-requires c = c.requires.good c.loop-found.found-index c.found-item.result (at_index c.args.vats.now c.loop-found.found-index c.found-item.result c.found-item.is c.loop-found-test.true)

pub overflow_add-count : goal.overflow_add-count
overflow_add-count c =
    let le = delivered_so_far c.args.vats.now c.loop-found.found-index c.found-item.result c.found-item.is c.loop-found-test.true in
    omega (arith, le, c.requires.few, c.delivered_in-count.ensures, c.loop-found.invariant)
