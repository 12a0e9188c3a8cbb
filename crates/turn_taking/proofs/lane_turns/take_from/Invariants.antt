use Rattle.std.proofs.Common.{◌-◌}
use Rattle.turn_taking.proofs.Turned.{HaveTaken}
use Rattle.turn_taking.proofs.lane_turns.take_from.Given as goal

abbrev pub invariant-loop-count : goal.invariant-loop-count
invariant-loop-count g l = HaveTaken (g.L.CaseLane.so_far l.fn.lane) (g.T.Turns.taken l.fn.turns) (g.L.CaseLane.so_far l.lane) (g.T.Turns.taken l.turns) l.count l.vat

abbrev pub decreases-loop-count : goal.decreases-loop-count
decreases-loop-count g l = l.most - l.count
