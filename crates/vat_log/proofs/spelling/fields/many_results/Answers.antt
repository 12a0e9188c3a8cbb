use Rattle.std.proofs.lemmas.Result.{err_from_is_err_and}
use Rattle.vat_log.specs.Reading.{answered_at, many_at}
use Rattle.vat_log.proofs.Loop.{goes_on, ends, is_done}
use Rattle.vat_log.proofs.spelling.fields.many_results.Goals as goal

pub returns-in_err-answered-clause-gives : goal.returns-in_err-answered-clause-gives
returns-in_err-answered-clause-gives c =
    let p = err_from_is_err_and c.from_residual-in_err-answered.result c.from_residual-in_err-answered.ensures.1 in
    rw (p.1, p.2) (ends c.in_err-answered.field-0.0 (answered_at c.args.version c.args.bytes.now) c.loop.results.items c.args.count c.loop.counter c.loop.place (many_at (answered_at c.args.version c.args.bytes.now) c.args.count c.args.at) c.loop-test.true c.in_err-answered.ensures.gives c.loop.invariant.so_far)

pub loop-preserved : goal.loop-preserved
loop-preserved c = record {
  within = c.in_ok-answered.ensures.within;
  so_far = rw c.in_ok-push.ensures.items (goes_on (answered_at c.args.version c.args.bytes.now) c.loop.results.items c.args.count c.loop.counter c.loop.place c.in_ok-answered.answered c.in_ok-answered.after (many_at (answered_at c.args.version c.args.bytes.now) c.args.count c.args.at) c.loop-test.true c.in_ok-answered.ensures.gives c.loop.invariant.so_far);
}

pub returns-clause-gives : goal.returns-clause-gives
returns-clause-gives c = is_done (answered_at c.args.version c.args.bytes.now) c.loop.results.items c.args.count c.loop.counter c.loop.place (many_at (answered_at c.args.version c.args.bytes.now) c.args.count c.args.at) c.loop-test.false c.loop.invariant.so_far
