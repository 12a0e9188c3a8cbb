use Rattle.std.proofs.Common.{Some}
use Rattle.std.proofs.lemmas.Result.{err_from_is_err_and}
use Rattle.cap_reader.specs.Tree.{root_tree}
use Rattle.cap_reader.specs.Places.{sections_at}
use Rattle.cap_reader.proofs.Running.{root_found, root_refused, empty_root}
use Rattle.cap_reader.proofs.visiting.root.Goals as goal

pub returns-in_err-place-clause-value : goal.returns-in_err-place-clause-value
returns-in_err-place-clause-value c =
    let p = err_from_is_err_and c.from_residual.result c.from_residual.ensures.1 in
    let e = root_refused (root_tree c.args.limits.now.depth c.args.frame.now) c.args.limits.now.words c.struct_at.new.limits.words c.in_err-place.field-0.0 (rw c.from-depth.ensures at c.in_err-place.ensures.value) in
    rw (p.1, p.2) e

pub returns-in-Some-clause-value : goal.returns-in-Some-clause-value
returns-in-Some-clause-value c =
    root_found (root_tree c.args.limits.now.depth c.args.frame.now) c.args.limits.now.words c.struct_at.new.limits.words (Some (sections_at c.args.frame.now c.in-Some.place)) (rw (c.in-Some.is, c.from-depth.ensures) at c.in_ok-place.ensures.value)

pub returns-in-None-clause-value : goal.returns-in-None-clause-value
returns-in-None-clause-value c =
    empty_root (root_tree c.args.limits.now.depth c.args.frame.now) c.args.frame.now c.args.limits.now.words c.struct_at.new.limits.words (rw (c.in-None.is, c.from-depth.ensures) at c.in_ok-place.ensures.value)
