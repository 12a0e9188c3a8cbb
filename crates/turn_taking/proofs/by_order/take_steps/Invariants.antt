use Rattle.std.proofs.Common.{◌≡◌, Some, false, map}
use Rattle.turn_taking.specs.Followed.{AreFollowed}
use Rattle.turn_taking.specs.Pass.{IsPass}
use Rattle.turn_taking.specs.Turned.{Taken}
use Rattle.turn_taking.proofs.by_order.take_steps.Given as goal

-- the steps so far were taken
abbrev pub invariant-loop-vat : goal.invariant-loop-vat
invariant-loop-vat g l =
    (l.count ≡ l.vat-index) × ((taken : Taken) → g.T.Turns.taken l.fn.turns ≡ Some taken → taken.is_stuck ≡ false → IsPass (map g.L.CaseLane.so_far l.fn.lanes) taken
    → (more : Taken) × (g.T.Turns.taken l.turns ≡ Some more) × AreFollowed (map g.L.CaseLane.so_far l.fn.lanes) (map g.L.CaseLane.so_far l.lanes) taken more l.fn.steps l.count)
