use Rattle.std.proofs.Common.{◌≡◌, ◌-◌, count_by, take}
use Rattle.number_tables.specs.Types.{TableKey}
use Rattle.decoded_records.specs.Past.{same_id}
use Rattle.number_tables.specs.Glue.LifeTables.{held_count_at, origin_at}
use Rattle.number_tables.proofs.exports_imports.ExportsImports.lower_raised.Given as goal

abbrev pub invariant-loop-number : goal.invariant-loop-number
invariant-loop-number l = record {
  counts : (i : TableKey) → held_count_at l.self i ≡ held_count_at l.initial.self i - count_by (λ x. same_id i x.0) (take l.number-index l.raised);
  origins : (i : TableKey) → origin_at l.self i ≡ origin_at l.initial.self i;
}
