use Rattle.std.proofs.Common.{◌≡◌, drop}
use Rattle.std.specs.Prelude.{slice_get}
use Rattle.picture.specs.Places.{is_vat, positions_from}
use Rattle.picture.proofs.order.positions.step_of.Given as goal

abbrev pub invariant-loop-step : goal.invariant-loop-step
invariant-loop-step l = slice_get (positions_from (is_vat l.place.vat) 0 l.order) l.place.number ≡ slice_get (positions_from (is_vat l.place.vat) l.step (drop l.step l.order)) l.left
