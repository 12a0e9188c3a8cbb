use Rattle.std.proofs.Common.{◌≡◌, drop}
use Rattle.std.specs.Prelude.{slice_get, ◌==◌}
use Rattle.run_model.specs.Steps.{vat_of}
use Rattle.picture.specs.Places.{positions_from}
use Rattle.picture.proofs.call_makers.step_at.Given as goal

abbrev pub invariant-loop-at : goal.invariant-loop-at
invariant-loop-at l = slice_get (positions_from (λ step. vat_of step == l.place.vat) 0 l.steps) l.place.number ≡ slice_get (positions_from (λ step. vat_of step == l.place.vat) l.at (drop l.at l.steps)) l.left
