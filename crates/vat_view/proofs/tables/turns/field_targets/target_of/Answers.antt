use Rattle.std.proofs.Common.{rules, arith}
use Rattle.std.proofs.lemmas.Grind.{common_steps}
use Rattle.std.proofs.lemmas.Option.{gets}
use Rattle.std.specs.Ordering.{nat_cmp, is_lt}
use Rattle.std.specs.Cmp.Lexicographic.{slice_cmp}
use Rattle.std.proofs.lemmas.List.Sorted.{IsPartitionPoint-from_clause}
use Rattle.vat_view.proofs.Finding.{parted, hit, miss, past}
use Rattle.vat_view.proofs.tables.turns.field_targets.target_of.Goals as goal

-- src/field_targets.rt:47:5
pub returns-in-Some : goal.returns-in-Some
returns-in-Some c =
    let point = IsPartitionPoint-from_clause (λ f. is_lt (slice_cmp nat_cmp f.1 c.args.path.now)) _ _ c.partition_point-place.ensures.partitioned (parted c.args.path.now c.args.sorted.now c.requires) (λ a r q k. search rules) in
    hit c.args.path.now c.args.sorted.now c.requires c.partition_point-place.result point c.in-Some.field-0.now (grind (arith, common_steps, gets)) (search rules)

-- src/field_targets.rt:47:5
pub returns-in_default : goal.returns-in_default
returns-in_default c =
    let point = IsPartitionPoint-from_clause (λ f. is_lt (slice_cmp nat_cmp f.1 c.args.path.now)) _ _ c.partition_point-place.ensures.partitioned (parted c.args.path.now c.args.sorted.now c.requires) (λ a r q k. search rules) in
    miss c.args.path.now c.args.sorted.now c.requires c.partition_point-place.result point c.in-Some.field-0.now (grind (arith, common_steps, gets)) (search rules)

-- src/field_targets.rt:47:5
pub returns-in_default-2 : goal.returns-in_default-2
returns-in_default-2 c =
    let point = IsPartitionPoint-from_clause (λ f. is_lt (slice_cmp nat_cmp f.1 c.args.path.now)) _ _ c.partition_point-place.ensures.partitioned (parted c.args.path.now c.args.sorted.now c.requires) (λ a r q k. search rules) in
    past c.args.path.now c.args.sorted.now c.requires c.partition_point-place.result point (grind (arith, common_steps, gets))
