use Rattle.std.proofs.Common.{◌≡◌, ◌+◌, sym, ◌∙◌, ap, ap₂, ℕ, List, [], ◌∷◌, ◌++◌, take, length, count_by, cond, arith, zero-add}
use Rattle.std.specs.Option.{option_to_list}
use Rattle.std.proofs.lemmas.Grind.{common_steps}
use Rattle.std.proofs.lemmas.List.{take_more, length-take-le}
use Rattle.std.proofs.lemmas.List.Sums.{sum_by_push}
use Rattle.decoded_records.specs.declared.origin.Origin.{Origin}
use Rattle.decoded_records.specs.Types.{Descriptor, TableKey}
use Rattle.decoded_records.specs.Glue.Origins.{is_cap, origin_by, origins_from}
use Rattle.decoded_records.proofs.Listing.{origins_more}
use Rattle.decoded_records.proofs.effects.many_origins.Goals.{in-Some+in_ok-push, in_default, then-is_cap, else-is_cap}
use Rattle.decoded_records.proofs.effects.many_origins.Goals as goal

pub loop-place-preserved : goal.loop-place-preserved
loop-place-preserved c =
    let ds : List Descriptor = c.descriptors-descriptor-items.result.now in
    let k : ℕ = c.loop-place.place in
    let d : Descriptor = c.descriptor-item.result in
    let before : List Descriptor = take k ds in
    let more : take (k + 1) ds ≡ before ++ d ∷ [] = take_more ds k d c.loop-place-test.true ∙ ap (λ x. before ++ x ∷ []) (sym c.descriptor-item.is) in
    let long : length before ≡ k = length-take-le k ds (omega (arith, c.loop-place-test.true)) in
    let pushed : c.match-origin_by.list.items ≡ c.loop-place.list.items ++ option_to_list c.origin_by.result = grind (arith, common_steps) in
    let counted : c.if-is_cap.before ≡ c.loop-place.before + cond (is_cap d) 1 0 = grind (arith, common_steps) in
    record {
      listed = pushed ∙ ap₂ (λ (xs : List (TableKey × Origin)) o. xs ++ option_to_list o) c.loop-place.invariant.listed
          (c.origin_by.ensures ∙ ap₂ (λ x y. origin_by c.args.number c.args.event.now x y d) (sym (zero-add (length before) ∙ long)) (c.loop-place.invariant.before ∙ sym (zero-add (count_by is_cap before))))
          ∙ sym (origins_more c.args.number c.args.event.now before 0 0 d) ∙ ap (λ xs. origins_from c.args.number c.args.event.now 0 0 xs) (sym more);
      before = counted ∙ ap (λ n. n + cond (is_cap d) 1 0) c.loop-place.invariant.before ∙ sym (sum_by_push (λ x. cond (is_cap x) 1 0) before d) ∙ ap (λ xs. count_by is_cap xs) (sym more);
    }
