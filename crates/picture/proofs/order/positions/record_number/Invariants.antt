use Rattle.std.proofs.Common.{◌≡◌, ◌≤◌, take}
use Rattle.std.specs.Prelude.{count_by}
use Rattle.picture.specs.Places.{is_vat}
use Rattle.picture.proofs.order.positions.record_number.Given as goal

abbrev pub invariant-loop-at : goal.invariant-loop-at
invariant-loop-at l = (l.before ≡ count_by (is_vat l.vat) (take l.at l.order)) × (l.before ≤ l.at)
