use Rattle.std.proofs.Common.{◌∙◌, sym}
use Rattle.std.proofs.lemmas.Result.{err_from_is_err_and}
use Rattle.cap_reader.specs.Places.{sections_at, child_at, u16_in}
use Rattle.exception_reasons.proofs.Stepping.{told_refused, told_null, told_found, told_other}
use Rattle.exception_reasons.proofs.reason_reading.told.Goals as goal

pub returns-in_err-body : goal.returns-in_err-body
returns-in_err-body c =
    let p = err_from_is_err_and c.from_residual.result c.from_residual.ensures.1 in
    rw (p.1, p.2) (told_refused (λ body. u16_in c.args.tag body.word) (child_at c.args.frame.now c.args.message.now 0) c.args.limits.now.words c.struct_field.new.limits.words c.in_err-body.field-0.0 c.in_err-body.ensures.value)

pub returns-then-u16_at-eq1 : goal.returns-then-u16_at-eq1
returns-then-u16_at-eq1 c =
    let found = rw c.in-Some.is at c.in_ok-body.ensures.value in
    let tagged = sym c.u16_at.ensures ∙ c.if-u16_at-eq1.true in
    rw (told_found (λ body. u16_in c.args.tag body.word) (child_at c.args.frame.now c.args.message.now 0) c.args.limits.now.words c.struct_field.new.limits.words (sections_at c.args.frame.now c.in-Some.body) found tagged) c.exception.ensures

pub returns-else-u16_at-eq1 : goal.returns-else-u16_at-eq1
returns-else-u16_at-eq1 c =
    let found = rw c.in-Some.is at c.in_ok-body.ensures.value in
    let other = rw c.u16_at.ensures at c.if-u16_at-eq1.false in
    told_other (λ body. u16_in c.args.tag body.word) (child_at c.args.frame.now c.args.message.now 0) c.args.limits.now.words c.struct_field.new.limits.words (sections_at c.args.frame.now c.in-Some.body) found other

pub returns-in-None : goal.returns-in-None
returns-in-None c =
    told_null (λ body. u16_in c.args.tag body.word) (child_at c.args.frame.now c.args.message.now 0) c.args.limits.now.words c.struct_field.new.limits.words (rw c.in-None.is at c.in_ok-body.ensures.value)
