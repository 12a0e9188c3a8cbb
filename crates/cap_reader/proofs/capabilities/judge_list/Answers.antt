use Rattle.std.proofs.Common.{ap, sym, ◌∙◌, Some}
use Rattle.std.proofs.lemmas.Result.{err_from_is_err_and}
use Rattle.cap_reader.specs.Pointers.{extent}
use Rattle.cap_reader.specs.Tree.{structure_at}
use Rattle.cap_reader.specs.Places.{elements_at}
use Rattle.cap_reader.proofs.Adding.{composite_judged, composite_refused, plain_judged, plain_refused}
use Rattle.cap_reader.proofs.capabilities.judge_list.Goals as goal

pub returns-in_err-composite : goal.returns-in_err-composite
returns-in_err-composite c path =
    let p = err_from_is_err_and c.from_residual.result c.from_residual.ensures.1 in
    let e = composite_refused (structure_at c.args.depth c.args.frame.now c.args.segment) c.args.frame.now c.args.segment c.args.start c.args.element_size c.args.count c.if-element_size-eq-COMPOSITE.true c.in_err-composite.field-0.0 c.in_err-composite.ensures path in
    rw (p.1, p.2) e

pub returns-then-element_size-eq-COMPOSITE : goal.returns-then-element_size-eq-COMPOSITE
returns-then-element_size-eq-COMPOSITE c =
    composite_judged (structure_at c.args.depth c.args.frame.now c.args.segment) c.args.frame.now c.args.segment c.args.start c.args.element_size c.args.count c.if-element_size-eq-COMPOSITE.true (Some (elements_at c.args.frame.now c.in_ok-composite.field-0)) c.in_ok-composite.ensures

pub returns-in-Some : goal.returns-in-Some
returns-in-Some c =
    let found = ap (extent c.args.frame.now c.args.segment c.args.start) (sym c.plain_size.ensures) ∙ sym c.in-Some.ensures.value in
    plain_judged (structure_at c.args.depth c.args.frame.now c.args.segment) c.args.frame.now c.args.segment c.args.start c.args.element_size c.args.count c.if-element_size-eq-COMPOSITE.false c.in-Some.field-0 found

pub returns-in-None : goal.returns-in-None
returns-in-None c =
    let found = ap (extent c.args.frame.now c.args.segment c.args.start) (sym c.plain_size.ensures) ∙ sym c.in-None.ensures.value in
    plain_refused (structure_at c.args.depth c.args.frame.now c.args.segment) c.args.frame.now c.args.segment c.args.start c.args.element_size c.args.count c.if-element_size-eq-COMPOSITE.false found
