use Rattle.std.proofs.Common.{◌≡◌, ◌≤◌, take, count_by}
use Rattle.decoded_records.specs.Glue.Origins.{is_cap}
use Rattle.vat_view.proofs.lookups.turning.reference_at.Given as goal

abbrev pub invariant-loop-index : goal.invariant-loop-index
invariant-loop-index l = record {
  unmet : l.index ≤ l.place;
  before : l.before ≡ count_by is_cap (take l.index l.descriptor-items);
}
