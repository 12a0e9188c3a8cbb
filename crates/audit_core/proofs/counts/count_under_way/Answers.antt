use Rattle.std.proofs.Common.{ap, arith}
use Rattle.std.proofs.lemmas.List.Sums.{sum_by_more, sum_by_more_le}
use Rattle.audit_core.specs.Glue.{under_way_on}
use Rattle.audit_core.proofs.Places.{at_index}
use Rattle.audit_core.proofs.counts.count_under_way.Goals as goal

pub under_way_on-count-requires : goal.under_way_on-count-requires
under_way_on-count-requires c = c.requires.good c.loop-found.found-index c.found-item.result (at_index c.args.links.now c.loop-found.found-index c.found-item.result c.found-item.is c.loop-found-test.true)

pub overflow_add-count : goal.overflow_add-count
overflow_add-count c =
    let le = sum_by_more_le under_way_on c.args.links.now c.loop-found.found-index c.found-item.result c.loop-found-test.true in
    omega (arith, le, ap under_way_on c.found-item.is, c.requires.few, c.under_way_on-count.ensures, c.loop-found.invariant)

pub loop-found-preserved : goal.loop-found-preserved
loop-found-preserved c =
    let more = sum_by_more under_way_on c.args.links.now c.loop-found.found-index c.found-item.result c.loop-found-test.true in
    omega (arith, more, ap under_way_on c.found-item.is, c.under_way_on-count.ensures, c.loop-found.invariant)
