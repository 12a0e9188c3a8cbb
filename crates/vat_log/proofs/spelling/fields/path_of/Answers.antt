use Rattle.std.specs.Int.{w16}
use Rattle.std.proofs.lemmas.Result.{err_from_is_err_and}
use Rattle.vat_log.specs.Reading.{number_at}
use Rattle.vat_log.proofs.Loop.{is_one, one_fails}
use Rattle.vat_log.proofs.spelling.fields.path_of.Goals as goal

pub returns-in_err-field-clause-gives : goal.returns-in_err-field-clause-gives
returns-in_err-field-clause-gives c =
    let p = err_from_is_err_and c.from_residual-in_err-field.result c.from_residual-in_err-field.ensures.1 in
    rw (p.1, p.2) (one_fails c.in_err-field.field-0.0 c.args.version (number_at w16 c.args.bytes.now) c.args.bytes.now c.args.at c.in_ok-count.count c.in_ok-count.after c.in_ok-count.ensures.gives c.if-count-eq1.true c.in_err-field.ensures.gives)

pub returns-then-count-eq1-clause-gives : goal.returns-then-count-eq1-clause-gives
returns-then-count-eq1-clause-gives c = rw c.in_ok-from_slice.ensures (is_one c.args.version (number_at w16 c.args.bytes.now) c.args.bytes.now c.args.at c.in_ok-count.count c.in_ok-count.after c.in_ok-field.field c.in_ok-field.after c.in_ok-count.ensures.gives c.if-count-eq1.true c.in_ok-field.ensures.gives)
