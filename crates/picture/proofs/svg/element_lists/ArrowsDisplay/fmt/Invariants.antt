use Rattle.picture.specs.Picture.{arrow_text}
use Rattle.picture.proofs.Writing.{Writes}
use Rattle.picture.proofs.svg.element_lists.ArrowsDisplay.fmt.Given as goal

abbrev pub invariant-loop-arrow : goal.invariant-loop-arrow
invariant-loop-arrow g l = Writes g.W.Write.write_str_gives arrow_text l.arrow-items l.arrow-index l.initial.f l.f
