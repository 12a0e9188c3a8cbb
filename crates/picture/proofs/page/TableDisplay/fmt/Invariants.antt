use Rattle.picture.specs.Page.{listed_text}
use Rattle.picture.proofs.Writing.{Writes}
use Rattle.picture.proofs.page.TableDisplay.fmt.Given as goal

abbrev pub invariant-loop-row : goal.invariant-loop-row
invariant-loop-row g l = Writes g.W.Write.write_str_gives listed_text l.row-items l.row-index l.initial.f l.f
