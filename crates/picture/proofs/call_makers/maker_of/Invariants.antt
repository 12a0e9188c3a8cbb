use Rattle.std.proofs.Common.{◌≡◌, drop}
use Rattle.picture.specs.Rows.{maker_of}
use Rattle.picture.proofs.call_makers.maker_of.Given as goal

abbrev pub invariant-loop-step : goal.invariant-loop-step
invariant-loop-step l = maker_of l.steps l.call ≡ maker_of (drop l.step-index l.steps) l.call
