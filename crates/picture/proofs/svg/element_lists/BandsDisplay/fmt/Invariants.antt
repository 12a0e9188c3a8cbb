use Rattle.picture.specs.Picture.{band_text}
use Rattle.picture.proofs.Writing.{Writes}
use Rattle.picture.proofs.svg.element_lists.BandsDisplay.fmt.Given as goal

abbrev pub invariant-loop-row : goal.invariant-loop-row
invariant-loop-row g l = Writes g.W.Write.write_str_gives (band_text l.room) l.row-items l.row-index l.initial.f l.f
