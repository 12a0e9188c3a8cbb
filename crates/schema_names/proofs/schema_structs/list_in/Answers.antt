use Rattle.std.proofs.lemmas.Result.{err_from_is_err_and}
use Rattle.cap_reader.specs.Places.{sections_at}
use Rattle.schema_names.proofs.Parts.{list_found, list_refused}
use Rattle.schema_names.proofs.schema_structs.list_in.Goals as goal

pub returns-in_err-list_field : goal.returns-in_err-list_field
returns-in_err-list_field c =
    let p = err_from_is_err_and c.from_residual.result c.from_residual.ensures.1 in
    rw (p.1, p.2) (list_refused c.args.frame.now ((sections_at c.args.frame.now c.args.place.now).child c.args.n) c.args.limits.now.words c.list_field.new.limits.words c.in_err-list_field.field-0.0 c.in_err-list_field.ensures.value)

pub returns : goal.returns
returns c =
    list_found c.args.frame.now ((sections_at c.args.frame.now c.args.place.now).child c.args.n) c.args.limits.now.words c.list_field.new.limits.words c.in_ok-list_field.field-0 c.in_ok-list_field.ensures.value
