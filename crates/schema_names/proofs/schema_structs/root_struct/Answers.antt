use Rattle.std.proofs.lemmas.Result.{err_from_is_err_and}
use Rattle.cap_reader.specs.Tree.{root_tree}
use Rattle.cap_reader.specs.Reading.{root_in}
use Rattle.cap_reader.specs.Places.{sections_at}
use Rattle.schema_names.proofs.Parts.{part_answers, part_fails}
use Rattle.schema_names.proofs.schema_structs.root_struct.Goals as goal

pub returns-in_err-root : goal.returns-in_err-root
returns-in_err-root c =
    let p = err_from_is_err_and c.from_residual.result c.from_residual.ensures.1 in
    rw (p.1, p.2) (part_fails (root_in (root_tree c.args.limits.now.depth c.args.frame.now)) c.args.limits.now.words c.root.new.limits.words c.in_err-root.field-0.0 c.in_err-root.ensures.value)

pub returns : goal.returns
returns c =
    part_answers (root_in (root_tree c.args.limits.now.depth c.args.frame.now)) c.args.limits.now.words c.root.new.limits.words (sections_at c.args.frame.now c.in_ok-root.field-0) c.in_ok-root.ensures.value
