use Rattle.std.proofs.Common.{◌≡◌, ◌+◌, count_by, take}
use Rattle.number_tables.specs.Types.{TableKey}
use Rattle.decoded_records.specs.Past.{same_id}
use Rattle.number_tables.specs.Glue.LifeTables.{held_count_at, origin_at, raised_origin}
use Rattle.number_tables.proofs.exports_imports.ExportsImports.raise_each.Given as goal

abbrev pub invariant-loop-index : goal.invariant-loop-index
invariant-loop-index l = record {
  counts : (i : TableKey) → held_count_at l.self i ≡ held_count_at l.initial.self i + count_by (λ x. same_id i x.0) (take l.index l.introduced);
  origins : (i : TableKey) → origin_at l.self i ≡ raised_origin (held_count_at l.initial.self i) (origin_at l.initial.self i) i (take l.index l.introduced);
}
