use Rattle.std.proofs.Common.{◌≡◌, ◌+◌, refl, sym, ◌∙◌, ap, subst, ℕ, List, [], ◌∷◌, ◌++◌, take, Some, count_by, cond, arith}
use Rattle.std.proofs.lemmas.Grind.{common_steps}
use Rattle.std.proofs.lemmas.List.{take_more}
use Rattle.std.proofs.lemmas.List.Sums.{sum_by_push}
use Rattle.std.proofs.lemmas.Option.{slice_get-get_or}
use Rattle.vat_view.specs.Types.{Descriptor}
use Rattle.decoded_records.specs.Glue.Origins.{is_cap}
use Rattle.vat_view.proofs.Landed.{reference_met}
use Rattle.vat_view.proofs.Turned.{AreNotedBefore, noted_more, noted_whole}
use Rattle.vat_view.proofs.lookups.turning.references_by_place.Goals as goal

pub loop-descriptor-preserved : goal.loop-descriptor-preserved
loop-descriptor-preserved c =
    let ds : List Descriptor = c.descriptors-all.result.now in
    let k : ℕ = c.loop-descriptor.descriptor-index in
    let d : Descriptor = c.descriptor-item.result in
    let before : List Descriptor = take k ds in
    let more : take (k + 1) ds ≡ before ++ d ∷ [] = take_more ds k d c.loop-descriptor-test.true ∙ ap (λ x. before ++ x ∷ []) (sym c.descriptor-item.is) in
    let counted : c.if-is_cap.before ≡ c.loop-descriptor.before + cond (is_cap d) 1 0 = grind (arith, common_steps) in
    let there = reference_met c.args.event.now ds c.references.result.now k k c.loop-descriptor.before d c.descriptors-all.ensures c.references.ensures refl c.loop-descriptor.invariant.before
    (slice_get-get_or ds k d c.loop-descriptor-test.true ∙ ap (λ x. Some x) (sym c.descriptor-item.is)) in
    record {
      noted = subst (λ l. AreNotedBefore c.args.event.now (k + 1) l) (sym c.in_ok-push.ensures.items)
          (noted_more c.args.event.now k c.loop-descriptor.noted.items c.reference_by.result c.loop-descriptor.invariant.noted (c.reference_by.ensures ∙ there));
      before = counted ∙ ap (λ n. n + cond (is_cap d) 1 0) c.loop-descriptor.invariant.before ∙ sym (sum_by_push (λ x. cond (is_cap x) 1 0) before d) ∙ ap (λ xs. count_by is_cap xs) (sym more);
    }

pub returns : goal.returns
returns c =
    noted_whole c.args.event.now c.descriptors-all.result.now c.loop-descriptor.noted.items c.loop-descriptor.descriptor-index c.descriptors-all.ensures (omega (arith, c.loop-descriptor-test.false))
    c.loop-descriptor.invariant.noted
