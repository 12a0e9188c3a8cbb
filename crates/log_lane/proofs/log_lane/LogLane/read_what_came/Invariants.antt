use Rattle.std.proofs.Common.{◌≡◌, None, Some}
use Rattle.std.specs.Prelude.{IfSome}
use Rattle.turn_taking.specs.Lanes.{GoesOn}
use Rattle.log_lane.specs.Lanes.{ReadAhead, as_lane}
use Rattle.log_lane.proofs.log_lane.LogLane.read_what_came.Given as goal

-- more was read, unless memory was refused
abbrev pub invariant-loop : goal.invariant-loop
invariant-loop g l =
    ((lane : ReadAhead) → l.fn.self ≡ Some lane → IfSome l.self (λ longer. GoesOn (as_lane lane) (as_lane longer)))
    × (l.fn.self ≡ None → l.self ≡ None)
