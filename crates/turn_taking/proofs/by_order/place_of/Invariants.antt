use Rattle.std.proofs.Common.{◌<◌, ◌≢◌, ℕ, map}
use Rattle.turn_taking.specs.Lanes.{LaneSoFar}
use Rattle.turn_taking.specs.Pass.{IsLaneAt, lane_vat}
use Rattle.turn_taking.proofs.by_order.place_of.Given as goal

-- the lanes so far are of other vats
abbrev pub invariant-loop-place : goal.invariant-loop-place
invariant-loop-place g l = (i : ℕ) (lane : LaneSoFar) → i < l.place → IsLaneAt (map g.L.CaseLane.so_far l.lanes) i lane → lane_vat lane ≢ l.vat
