use Rattle.picture.specs.Picture.{shape_text}
use Rattle.picture.proofs.Writing.{Writes}
use Rattle.picture.proofs.svg.element_lists.ShapesDisplay.fmt.Given as goal

abbrev pub invariant-loop-row : goal.invariant-loop-row
invariant-loop-row g l = Writes g.W.Write.write_str_gives (shape_text l.linked) l.row-items l.row-index l.initial.f l.f
