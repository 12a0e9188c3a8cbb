use Rattle.std.proofs.lemmas.Result.{err_from_is_err_and}
use Rattle.vat_log.specs.Reading.{nonzero_at}
use Rattle.vat_log.proofs.Loop.{is_one, one_fails}
use Rattle.vat_log.proofs.spelling.fields.references_of.Goals as goal

pub returns-in_err-reference-clause-gives : goal.returns-in_err-reference-clause-gives
returns-in_err-reference-clause-gives c =
    let p = err_from_is_err_and c.from_residual-in_err-reference.result c.from_residual-in_err-reference.ensures.1 in
    rw (p.1, p.2) (one_fails c.in_err-reference.field-0.0 c.args.version (nonzero_at c.args.bytes.now) c.args.bytes.now c.args.at c.in_ok-count.count c.in_ok-count.after c.in_ok-count.ensures.gives c.if-count-eq1.true c.in_err-reference.ensures.gives)

pub returns-then-count-eq1-clause-gives : goal.returns-then-count-eq1-clause-gives
returns-then-count-eq1-clause-gives c = rw c.one.ensures (is_one c.args.version (nonzero_at c.args.bytes.now) c.args.bytes.now c.args.at c.in_ok-count.count c.in_ok-count.after c.in_ok-reference.reference c.in_ok-reference.after c.in_ok-count.ensures.gives c.if-count-eq1.true c.in_ok-reference.ensures.gives)
