use Rattle.std.specs.Int.{w16}
use Rattle.std.proofs.lemmas.Result.{err_from_is_err_and}
use Rattle.vat_log.specs.Reading.{number_at, many_at}
use Rattle.vat_log.proofs.Loop.{goes_on, ends, is_done}
use Rattle.vat_log.proofs.spelling.fields.many_path_fields.Goals as goal

pub returns-in_err-field-clause-gives : goal.returns-in_err-field-clause-gives
returns-in_err-field-clause-gives c =
    let p = err_from_is_err_and c.from_residual-in_err-field.result c.from_residual-in_err-field.ensures.1 in
    rw (p.1, p.2) (ends c.in_err-field.field-0.0 (number_at w16 c.args.bytes.now) c.loop.fields.items c.args.count c.loop.counter c.loop.place (many_at (number_at w16 c.args.bytes.now) c.args.count c.args.at) c.loop-test.true c.in_err-field.ensures.gives c.loop.invariant.so_far)

pub loop-preserved : goal.loop-preserved
loop-preserved c = record {
  within = c.in_ok-field.ensures.within;
  so_far = rw c.in_ok-push.ensures.items (goes_on (number_at w16 c.args.bytes.now) c.loop.fields.items c.args.count c.loop.counter c.loop.place c.in_ok-field.field c.in_ok-field.after (many_at (number_at w16 c.args.bytes.now) c.args.count c.args.at) c.loop-test.true c.in_ok-field.ensures.gives c.loop.invariant.so_far);
}

pub returns-clause-gives : goal.returns-clause-gives
returns-clause-gives c = is_done (number_at w16 c.args.bytes.now) c.loop.fields.items c.args.count c.loop.counter c.loop.place (many_at (number_at w16 c.args.bytes.now) c.args.count c.args.at) c.loop-test.false c.loop.invariant.so_far
