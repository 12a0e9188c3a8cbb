use Rattle.std.proofs.lemmas.Result.{err_from_is_err_and}
use Rattle.cap_reader.specs.Places.{elements_at}
use Rattle.schema_names.proofs.Parts.{struct_found, struct_refused}
use Rattle.schema_names.proofs.schema_structs.element_in.Goals as goal

pub returns-in_err-element : goal.returns-in_err-element
returns-in_err-element c =
    let p = err_from_is_err_and c.from_residual.result c.from_residual.ensures.1 in
    rw (p.1, p.2) (struct_refused c.args.frame.now ((elements_at c.args.frame.now c.args.list.now).element c.args.i) c.args.limits.now.words c.element.new.limits.words c.in_err-element.field-0.0 (c.in_err-element.ensures.value c.args.frame.now))

pub returns : goal.returns
returns c =
    struct_found c.args.frame.now ((elements_at c.args.frame.now c.args.list.now).element c.args.i) c.args.limits.now.words c.element.new.limits.words c.in_ok-element.field-0 (c.in_ok-element.ensures.value c.args.frame.now)
