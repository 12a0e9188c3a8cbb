use Rattle.std.proofs.lemmas.Result.{err_from_is_err_and}
use Rattle.rpc_view.specs.Glue.{sections_of}
use Rattle.rpc_view.proofs.Parts.{list_found, list_refused}
use Rattle.rpc_view.proofs.structs.list_in.Goals as goal

pub returns-in_err-list_field-in-Some : goal.returns-in_err-list_field-in-Some
returns-in_err-list_field-in-Some c =
    let p = err_from_is_err_and c.from_residual.result c.from_residual.ensures.1 in
    rw (p.1, p.2) (list_refused c.args.frame.now ((sections_of c.args.frame.now c.args.place.now).child c.args.n) c.args.limits.now.words c.list_field.new.limits.words c.in_err-list_field-in-Some.field-0.0 (rw c.in-Some.is c.in_err-list_field-in-Some.ensures.value))

pub returns-in_ok-list_field-in-Some : goal.returns-in_ok-list_field-in-Some
returns-in_ok-list_field-in-Some c =
    list_found c.args.frame.now ((sections_of c.args.frame.now c.args.place.now).child c.args.n) c.args.limits.now.words c.list_field.new.limits.words c.in_ok-list_field-in-Some.field-0 (rw c.in-Some.is c.in_ok-list_field-in-Some.ensures.value)
