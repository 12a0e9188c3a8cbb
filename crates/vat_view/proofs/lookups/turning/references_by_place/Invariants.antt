use Rattle.std.proofs.Common.{◌≡◌, take, count_by}
use Rattle.decoded_records.specs.Glue.Origins.{is_cap}
use Rattle.vat_view.proofs.Turned.{AreNotedBefore}
use Rattle.vat_view.proofs.lookups.turning.references_by_place.Given as goal

abbrev pub invariant-loop-descriptor : goal.invariant-loop-descriptor
invariant-loop-descriptor l = record {
  noted : AreNotedBefore l.event l.descriptor-index l.noted.items;
  before : l.before ≡ count_by is_cap (take l.descriptor-index l.all);
}
