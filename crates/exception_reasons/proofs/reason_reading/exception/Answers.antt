use Rattle.std.proofs.lemmas.Result.{err_from_is_err_and}
use Rattle.cap_reader.specs.Places.{sections_at, child_at}
use Rattle.exception_reasons.proofs.Stepping.{exception_refused, exception_null, exception_found}
use Rattle.exception_reasons.proofs.reason_reading.exception.Goals as goal

pub returns-in_err-exception : goal.returns-in_err-exception
returns-in_err-exception c =
    let p = err_from_is_err_and c.from_residual.result c.from_residual.ensures.1 in
    rw (p.1, p.2) (exception_refused (child_at c.args.frame.now c.args.place.now c.args.n) c.args.limits.now.words c.struct_field.new.limits.words c.in_err-exception.field-0.0 c.in_err-exception.ensures.value)

pub returns-in-Some : goal.returns-in-Some
returns-in-Some c =
    let found = rw c.in-Some.is at c.in_ok-exception.ensures.value in
    rw (exception_found (child_at c.args.frame.now c.args.place.now c.args.n) c.args.limits.now.words c.struct_field.new.limits.words (sections_at c.args.frame.now c.in-Some.exception) found) c.text_field.ensures.value

pub returns-in-None : goal.returns-in-None
returns-in-None c =
    exception_null (child_at c.args.frame.now c.args.place.now c.args.n) c.args.limits.now.words c.struct_field.new.limits.words (rw c.in-None.is at c.in_ok-exception.ensures.value)
