use Rattle.std.proofs.Common.{sym, ◌∙◌, ap, List, Some, arith}
use Rattle.std.proofs.lemmas.Option.{slice_get-get_or}
use Rattle.vat_view.specs.Types.{Descriptor}
use Rattle.vat_view.proofs.Landed.{reference_met, reference_unmet}
use Rattle.vat_view.proofs.lookups.turning.reference_at.Goals as goal

pub returns-then-index-place : goal.returns-then-index-place
returns-then-index-place c =
    let ds : List Descriptor = c.descriptors-descriptor-items.result.now in
    let d : Descriptor = c.descriptor-item.result in
    c.reference_by.ensures
    ∙ reference_met c.args.event.now ds c.references.result.now c.args.place c.loop-index.index c.loop-index.before d c.descriptors-descriptor-items.ensures c.references.ensures
    c.if-index-place.true c.loop-index.invariant.before (slice_get-get_or ds c.loop-index.index d c.loop-index-test.true ∙ ap (λ x. Some x) (sym c.descriptor-item.is))

pub returns : goal.returns
returns c = reference_unmet c.args.event.now c.descriptors-descriptor-items.result.now c.args.place c.descriptors-descriptor-items.ensures (omega (arith, c.loop-index-test.false, c.loop-index.invariant.unmet))
