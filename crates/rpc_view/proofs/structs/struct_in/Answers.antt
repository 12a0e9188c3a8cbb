use Rattle.std.proofs.lemmas.Result.{err_from_is_err_and}
use Rattle.rpc_view.specs.Glue.{sections_of}
use Rattle.rpc_view.proofs.Parts.{struct_found, struct_refused}
use Rattle.rpc_view.proofs.structs.struct_in.Goals as goal

pub returns-in_err-struct_field-in-Some : goal.returns-in_err-struct_field-in-Some
returns-in_err-struct_field-in-Some c =
    let p = err_from_is_err_and c.from_residual.result c.from_residual.ensures.1 in
    rw (p.1, p.2) (struct_refused c.args.frame.now ((sections_of c.args.frame.now c.args.place.now).child c.args.n) c.args.limits.now.words c.struct_field.new.limits.words c.in_err-struct_field-in-Some.field-0.0 (rw c.in-Some.is c.in_err-struct_field-in-Some.ensures.value))

pub returns-in_ok-struct_field-in-Some : goal.returns-in_ok-struct_field-in-Some
returns-in_ok-struct_field-in-Some c =
    struct_found c.args.frame.now ((sections_of c.args.frame.now c.args.place.now).child c.args.n) c.args.limits.now.words c.struct_field.new.limits.words c.in_ok-struct_field-in-Some.field-0 (rw c.in-Some.is c.in_ok-struct_field-in-Some.ensures.value)
