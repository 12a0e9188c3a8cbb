use Rattle.std.proofs.Common.{[]}
use Rattle.std.proofs.lemmas.Result.{err_from_is_err_and}
use Rattle.cap_reader.specs.Fields.{fields_in}
use Rattle.rpc_view.specs.Glue.{sections_of}
use Rattle.rpc_view.proofs.Parts.{part_answers, part_refuses}
use Rattle.rpc_view.proofs.structs.fields_of.Goals as goal

pub returns-in_err-fields-in-Some : goal.returns-in_err-fields-in-Some
returns-in_err-fields-in-Some c =
    let p = err_from_is_err_and c.from_residual.result c.from_residual.ensures.1 in
    rw (p.1, p.2) (part_refuses (fields_in [] ((sections_of c.args.frame.now c.args.place.now).child c.args.n)) c.args.limits.now.words c.fields.new.limits.words c.in_err-fields-in-Some.field-0.0 (rw c.in-Some.is c.in_err-fields-in-Some.ensures.value))

pub returns-in_ok-fields-in-Some : goal.returns-in_ok-fields-in-Some
returns-in_ok-fields-in-Some c =
    part_answers (fields_in [] ((sections_of c.args.frame.now c.args.place.now).child c.args.n)) c.args.limits.now.words c.fields.new.limits.words c.in_ok-fields-in-Some.field-0 (rw c.in-Some.is c.in_ok-fields-in-Some.ensures.value)
