use Rattle.std.proofs.Common.{◌≡◌, take, map, All}
use Rattle.std.specs.List.{flat_map}
use Rattle.std.specs.List.Sorted.{IsStrictlyIncreasing}
use Rattle.vat_tap.specs.Tickets.{tickets_of}
use Rattle.vat_tap.proofs.tap.log_of.Given as goal

abbrev pub invariant-loop-lane : goal.invariant-loop-lane
invariant-loop-lane l = record {
  all : map (λ item. item.now) l.all.items ≡ flat_map (λ lane. lane.recorded) (take l.lane-index l.lanes);
  rising : All (λ lane. IsStrictlyIncreasing (tickets_of lane.recorded)) (take l.lane-index l.lanes);
}
