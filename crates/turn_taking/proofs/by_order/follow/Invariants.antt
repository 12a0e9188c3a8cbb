use Rattle.std.proofs.Common.{◌≡◌, ◌≤◌, Some, false, drop, length, map}
use Rattle.turn_taking.specs.Followed.{AreFollowed}
use Rattle.turn_taking.specs.Pass.{IsPass}
use Rattle.turn_taking.specs.Turned.{Taken}
use Rattle.turn_taking.proofs.by_order.follow.Given as goal

-- the steps so far were taken, and the rest are those behind them
abbrev pub invariant-loop : goal.invariant-loop
invariant-loop g l =
    (l.count ≤ length l.fn.order) × (l.rest ≡ drop l.count l.fn.order) × ((taken : Taken) → g.T.Turns.taken l.fn.turns ≡ Some taken → taken.is_stuck ≡ false → IsPass (map g.L.CaseLane.so_far l.fn.lanes) taken
    → (more : Taken) × (g.T.Turns.taken l.turns ≡ Some more) × AreFollowed (map g.L.CaseLane.so_far l.fn.lanes) (map g.L.CaseLane.so_far l.lanes) taken more l.fn.order l.count)
