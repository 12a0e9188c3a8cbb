use Rattle.std.proofs.Common.{◌≡◌, take, count_by}
use Rattle.decoded_records.specs.Glue.Origins.{origins_from, is_cap}
use Rattle.decoded_records.proofs.effects.many_origins.Given as goal

abbrev pub invariant-loop-place : goal.invariant-loop-place
invariant-loop-place l = record {
  listed : l.list.items ≡ origins_from l.number l.event 0 0 (take l.place l.descriptor-items);
  before : l.before ≡ count_by is_cap (take l.place l.descriptor-items);
}
