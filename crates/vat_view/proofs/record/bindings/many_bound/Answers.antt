use Rattle.std.proofs.Common.{◌≡◌, ◌+◌, sym, ◌∙◌, ap, ap₂, ℕ, List, [], ◌∷◌, ◌++◌, take, Option, count_by, cond, arith, zero-add}
use Rattle.std.specs.Option.{option_to_list}
use Rattle.std.proofs.lemmas.Grind.{common_steps}
use Rattle.std.proofs.lemmas.List.{take_more}
use Rattle.std.proofs.lemmas.List.Sums.{sum_by_push}
use Rattle.vat_view.specs.Types.{Descriptor, View}
use Rattle.decoded_records.specs.Views.{references}
use Rattle.decoded_records.specs.Glue.Origins.{is_cap}
use Rattle.vat_view.specs.Glue.Tables.{bound_at, view_by, reference_by, bound_one, bound_from}
use Rattle.number_tables.specs.Glue.QuestionTables.{question_at}
use Rattle.vat_view.proofs.Arriving.{bound_one_more}
use Rattle.vat_view.proofs.record.bindings.many_bound.Goals as goal

pub loop-descriptor-preserved : goal.loop-descriptor-preserved
loop-descriptor-preserved c =
    let ds : List Descriptor = c.descriptors-descriptor-items.result.now in
    let rs : List ℕ = references c.args.event.now in
    let k : ℕ = c.loop-descriptor.descriptor-index in
    let d : Descriptor = c.descriptor-item.result in
    let f : Descriptor → Option View = view_by (bound_at c.args.bound.now) c.args.lives.now c.args.begun.now (question_at c.args.questions.now) c.args.event.now in
    let before : List Descriptor = take k ds in
    let more : take (k + 1) ds ≡ before ++ d ∷ [] = take_more ds k d c.loop-descriptor-test.true ∙ ap (λ x. before ++ x ∷ []) (sym c.descriptor-item.is) in
    let pushed : c.match-reference_by.list.items ≡ c.loop-descriptor.list.items ++ option_to_list (bound_one f d c.reference_by.result) = grind (arith, common_steps) in
    let counted : c.if-is_cap.before ≡ c.loop-descriptor.before + cond (is_cap d) 1 0 = grind (arith, common_steps) in
    let reference : c.reference_by.result ≡ reference_by rs (0 + count_by is_cap before) d =
    c.reference_by.ensures ∙ ap₂ (λ l n. reference_by l n d) c.references-noted.ensures (c.loop-descriptor.invariant.before ∙ sym (zero-add (count_by is_cap before))) in
    record {
      listed = pushed ∙ ap₂ (λ (xs : List (ℕ × View)) o. xs ++ option_to_list o) c.loop-descriptor.invariant.listed (ap (λ o. bound_one f d o) reference)
          ∙ sym (bound_one_more f rs before 0 d) ∙ ap (λ xs. bound_from f rs 0 xs) (sym more);
      before = counted ∙ ap (λ n. n + cond (is_cap d) 1 0) c.loop-descriptor.invariant.before ∙ sym (sum_by_push (λ x. cond (is_cap x) 1 0) before d) ∙ ap (λ xs. count_by is_cap xs) (sym more);
    }
