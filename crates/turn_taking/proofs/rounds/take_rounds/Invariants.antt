use Rattle.std.proofs.Common.{◌≡◌, Some, map}
use Rattle.turn_taking.specs.Turned.{Taken}
use Rattle.turn_taking.specs.Pass.{AreThere}
use Rattle.turn_taking.proofs.Joined.{RoundsSoFar}
use Rattle.turn_taking.proofs.rounds.take_rounds.Given as goal

abbrev pub invariant-loop : goal.invariant-loop
invariant-loop g l =
    (taken : Taken) → AreThere (map g.L.CaseLane.so_far l.fn.lanes) → g.T.Turns.taken l.fn.turns ≡ Some taken
    → (more : Taken) × (g.T.Turns.taken l.turns ≡ Some more) × RoundsSoFar (map g.L.CaseLane.so_far l.fn.lanes) (map g.L.CaseLane.so_far l.lanes) taken more l.some
