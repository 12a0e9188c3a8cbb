use Rattle.std.proofs.Common.{◌≡◌, take}
use Rattle.picture.specs.Rows.{arrows_of}
use Rattle.picture.proofs.arrow.arrows_of.Given as goal

abbrev pub invariant-loop-row : goal.invariant-loop-row
invariant-loop-row l = l.arrows.items ≡ arrows_of l.scene (take l.row-index l.rows)
