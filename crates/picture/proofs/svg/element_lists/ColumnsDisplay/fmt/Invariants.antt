use Rattle.picture.specs.Picture.{column_text}
use Rattle.picture.proofs.Writing.{Writes}
use Rattle.picture.proofs.svg.element_lists.ColumnsDisplay.fmt.Given as goal

abbrev pub invariant-loop-column : goal.invariant-loop-column
invariant-loop-column g l = Writes g.W.Write.write_str_gives column_text l.column-items l.column-index l.initial.f l.f
