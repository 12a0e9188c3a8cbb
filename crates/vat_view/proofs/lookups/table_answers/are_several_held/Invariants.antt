use Rattle.std.proofs.Common.{◌≡◌, ◌≤◌, count_by, take}
use Rattle.vat_view.specs.Types.{TableKey}
use Rattle.decoded_records.specs.Past.{same_id}
use Rattle.number_tables.specs.Glue.LifeTables.{held_count_at}
use Rattle.vat_view.specs.Glue.Asking.{tally_at}
use Rattle.vat_view.proofs.lookups.table_answers.are_several_held.Given as goal

abbrev pub invariant-loop-number : goal.invariant-loop-number
invariant-loop-number l = record {
  counted : (i : TableKey) → tally_at l.tally i ≡ count_by (same_id i) (take l.number-index l.numbers);
  held : (i : TableKey) → count_by (same_id i) (take l.number-index l.numbers) ≤ held_count_at l.lives i;
}
