use Rattle.std.proofs.Common.{arith}
use Rattle.run_model.proofs.Numbers.{counted_within, numbered_more}
use Rattle.authority.proofs.Stepping.{number_is}
use Rattle.authority.proofs.edge_search.find.Goals as goal

pub count-requires : goal.count-requires
count-requires c =
    let least = counted_within c.args.steps.now c.loop-index.index c.vat_of.result c.loop-index-test.true in
    let same = c.loop-index.invariant.0 c.vat_of.result in
    omega (arith, least, same)

pub with_step-requires-clause-number : goal.with_step-requires-clause-number
with_step-requires-clause-number c =
    number_is c.args.steps.now c.loop-index.index c.in_ok-number.number c.vat_of.result c.index-steps-index.result c.loop-index.numbers c.loop-index-test.true c.index-steps-index.is c.vat_of.ensures c.loop-index.invariant.0 c.in_ok-number.ensures.answer

pub loop-index-preserved : goal.loop-index-preserved
loop-index-preserved c = (
  numbered_more c.args.steps.now c.loop-index.index c.index-steps-index.result c.vat_of.result c.loop-index.numbers c.count.new.self c.loop-index-test.true c.index-steps-index.is c.vat_of.ensures c.in_ok-number.ensures.counts c.loop-index.invariant.0,
  c.in_ok-found.ensures,
)
