use Rattle.std.proofs.lemmas.Result.{err_from_is_err_and}
use Rattle.vat_log.specs.Reading.{answered_at}
use Rattle.vat_log.proofs.Loop.{is_one, one_fails}
use Rattle.vat_log.proofs.spelling.fields.results_of.Goals as goal

pub returns-in_err-answered-clause-gives : goal.returns-in_err-answered-clause-gives
returns-in_err-answered-clause-gives c =
    let p = err_from_is_err_and c.from_residual-in_err-answered.result c.from_residual-in_err-answered.ensures.1 in
    rw (p.1, p.2) (one_fails c.in_err-answered.field-0.0 c.args.version (answered_at c.args.version c.args.bytes.now) c.args.bytes.now c.args.at c.in_ok-count.count c.in_ok-count.after c.in_ok-count.ensures.gives c.if-count-eq1.true c.in_err-answered.ensures.gives)

pub returns-then-count-eq1-clause-gives : goal.returns-then-count-eq1-clause-gives
returns-then-count-eq1-clause-gives c = rw c.one.ensures (is_one c.args.version (answered_at c.args.version c.args.bytes.now) c.args.bytes.now c.args.at c.in_ok-count.count c.in_ok-count.after c.in_ok-answered.answered c.in_ok-answered.after c.in_ok-count.ensures.gives c.if-count-eq1.true c.in_ok-answered.ensures.gives)
