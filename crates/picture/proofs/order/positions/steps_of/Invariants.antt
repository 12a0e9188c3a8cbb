use Rattle.std.proofs.Common.{◌≡◌, ◌≤◌, ◌+◌, drop}
use Rattle.std.specs.Prelude.{count_by}
use Rattle.picture.specs.Places.{is_vat}
use Rattle.picture.proofs.order.positions.steps_of.Given as goal

abbrev pub invariant-loop-step : goal.invariant-loop-step
invariant-loop-step l = (l.steps + count_by (is_vat l.vat) (drop l.step-index l.order) ≡ count_by (is_vat l.vat) l.order) × (l.steps ≤ l.step-index)
