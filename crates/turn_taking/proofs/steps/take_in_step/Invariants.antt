use Rattle.std.proofs.Common.{◌≡◌, true, Some, map}
use Rattle.turn_taking.specs.Turned.{Taken}
use Rattle.turn_taking.specs.Pass.{AreFurther, IsPass}
use Rattle.turn_taking.proofs.steps.take_in_step.Given as goal

abbrev pub invariant-loop : goal.invariant-loop
invariant-loop g l =
    (taken : Taken) → g.T.Turns.taken l.fn.turns ≡ Some taken → IsPass (map g.L.CaseLane.so_far l.fn.lanes) taken
    → (more : Taken) × (g.T.Turns.taken l.turns ≡ Some more) × (more.is_stuck ≡ taken.is_stuck) × (taken.is_stuck ≡ true → more.in_order ≡ taken.in_order) × AreFurther (map g.L.CaseLane.so_far l.fn.lanes) (map g.L.CaseLane.so_far l.lanes) × IsPass (map g.L.CaseLane.so_far l.lanes) more
