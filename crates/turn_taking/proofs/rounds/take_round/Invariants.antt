use Rattle.std.proofs.Common.{◌≡◌, Some, map}
use Rattle.turn_taking.specs.Turned.{Taken}
use Rattle.turn_taking.specs.Pass.{AreThere}
use Rattle.turn_taking.proofs.Sided.{RoundSoFar}
use Rattle.turn_taking.proofs.rounds.take_round.Given as goal

abbrev pub invariant-loop-place : goal.invariant-loop-place
invariant-loop-place g l =
    (taken : Taken) → AreThere (map g.L.CaseLane.so_far l.fn.lanes) → g.T.Turns.taken l.fn.turns ≡ Some taken
    → (more : Taken) × (g.T.Turns.taken l.turns ≡ Some more) × RoundSoFar (map g.L.CaseLane.so_far l.fn.lanes) (map g.L.CaseLane.so_far l.lanes) taken more l.some l.place
