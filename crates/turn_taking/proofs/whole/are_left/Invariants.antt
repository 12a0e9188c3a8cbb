use Rattle.std.proofs.Common.{◌≡◌, ◌<◌, ℕ, [], map}
use Rattle.turn_taking.specs.Lanes.{LaneSoFar}
use Rattle.turn_taking.specs.Pass.{AreThere, IsLaneAt}
use Rattle.turn_taking.proofs.whole.are_left.Given as goal

-- no record is ahead in the lanes so far
abbrev pub invariant-loop-place : goal.invariant-loop-place
invariant-loop-place g l = AreThere (map g.L.CaseLane.so_far l.lanes) → (i : ℕ) (lane : LaneSoFar) → i < l.place → IsLaneAt (map g.L.CaseLane.so_far l.lanes) i lane → lane.ahead ≡ []
