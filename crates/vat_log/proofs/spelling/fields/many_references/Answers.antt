use Rattle.std.proofs.lemmas.Result.{err_from_is_err_and}
use Rattle.vat_log.specs.Reading.{nonzero_at, many_at}
use Rattle.vat_log.proofs.Loop.{goes_on, ends, is_done}
use Rattle.vat_log.proofs.spelling.fields.many_references.Goals as goal

pub returns-in_err-reference-clause-gives : goal.returns-in_err-reference-clause-gives
returns-in_err-reference-clause-gives c =
    let p = err_from_is_err_and c.from_residual-in_err-reference.result c.from_residual-in_err-reference.ensures.1 in
    rw (p.1, p.2) (ends c.in_err-reference.field-0.0 (nonzero_at c.args.bytes.now) c.loop.references.items c.args.count c.loop.counter c.loop.place (many_at (nonzero_at c.args.bytes.now) c.args.count c.args.at) c.loop-test.true c.in_err-reference.ensures.gives c.loop.invariant.so_far)

pub loop-preserved : goal.loop-preserved
loop-preserved c = record {
  within = c.in_ok-reference.ensures.within;
  so_far = rw c.in_ok-push.ensures.items (goes_on (nonzero_at c.args.bytes.now) c.loop.references.items c.args.count c.loop.counter c.loop.place c.in_ok-reference.reference c.in_ok-reference.after (many_at (nonzero_at c.args.bytes.now) c.args.count c.args.at) c.loop-test.true c.in_ok-reference.ensures.gives c.loop.invariant.so_far);
}

pub returns-clause-gives : goal.returns-clause-gives
returns-clause-gives c = is_done (nonzero_at c.args.bytes.now) c.loop.references.items c.args.count c.loop.counter c.loop.place (many_at (nonzero_at c.args.bytes.now) c.args.count c.args.at) c.loop-test.false c.loop.invariant.so_far
