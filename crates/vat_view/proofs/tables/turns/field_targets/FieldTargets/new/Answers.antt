use Rattle.std.proofs.Common.{rules}
use Rattle.std.proofs.lemmas.List.Sorted.{ranks_by, answers_always}
use Rattle.std.proofs.lemmas.Cmp.{nat_list_cmp_total}
use Rattle.vat_view.specs.Glue.FieldTargets.{is_before}
use Rattle.vat_view.proofs.Finding.{first_kept}
use Rattle.vat_view.proofs.tables.turns.field_targets.FieldTargets.new.Goals as goal

pub invariant_of-result : goal.invariant_of-result
invariant_of-result c = c.in_ok-sort_by.ensures.sorted is_before (ranks_by nat_list_cmp_total (λ f. f.1)) (answers_always _ _ _ (λ f a r g h. search rules))

pub returns : goal.returns
returns c = first_kept _ _ (c.sort_by.ensures.stable is_before (ranks_by nat_list_cmp_total (λ f. f.1)) (answers_always _ _ _ (λ f a r g h. search rules)))
