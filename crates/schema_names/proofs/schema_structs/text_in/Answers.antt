use Rattle.std.specs.Option.{option_map}
use Rattle.std.proofs.lemmas.Result.{err_from_is_err_and}
use Rattle.cap_reader.specs.Reading.{text_in}
use Rattle.cap_reader.specs.Places.{sections_at, text_at}
use Rattle.schema_names.proofs.Parts.{part_answers, part_fails}
use Rattle.schema_names.proofs.schema_structs.text_in.Goals as goal

pub returns-in_err-text_field : goal.returns-in_err-text_field
returns-in_err-text_field c =
    let p = err_from_is_err_and c.from_residual.result c.from_residual.ensures.1 in
    rw (p.1, p.2) (part_fails (text_in ((sections_at c.args.frame.now c.args.place.now).child c.args.n)) c.args.limits.now.words c.text_field.new.limits.words c.in_err-text_field.field-0.0 c.in_err-text_field.ensures.value)

pub returns : goal.returns
returns c =
    part_answers (text_in ((sections_at c.args.frame.now c.args.place.now).child c.args.n)) c.args.limits.now.words c.text_field.new.limits.words (option_map (text_at c.args.frame.now) c.in_ok-text_field.field-0) c.in_ok-text_field.ensures.value
