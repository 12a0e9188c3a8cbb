use Rattle.std.proofs.Common.{◌≡◌, drop}
use Rattle.picture.specs.Picture.{farthest}
use Rattle.picture.proofs.svg.width.farthest.Given as goal

abbrev pub invariant-loop-row : goal.invariant-loop-row
invariant-loop-row l = farthest l.far (drop l.row-index l.rows) ≡ farthest l.least l.rows
