use Rattle.std.proofs.Common.{◌≡◌, ◌≤◌, drop}
use Rattle.decoded_records.specs.Glue.Origins.{origins_from}
use Rattle.vat_view.specs.Glue.Tables.{first_in}
use Rattle.vat_view.proofs.record.introduced.first_in.Given as goal

abbrev pub invariant-loop-place : goal.invariant-loop-place
invariant-loop-place l = record {
  found : first_in l.id (origins_from l.number l.event l.place l.before (drop l.place l.descriptor-items)) ≡ first_in l.id (origins_from l.number l.event 0 0 l.descriptor-items);
  bound : l.before ≤ l.place;
}
