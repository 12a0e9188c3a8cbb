use Rattle.picture.proofs.Wrapping.{Wraps}
use Rattle.picture.proofs.svg.captions.WrappedDisplay.fmt.Given as goal

abbrev pub invariant-loop-letter : goal.invariant-loop-letter
invariant-loop-letter g l = Wraps g.W.Write.write_str_gives l.letter-items l.letter-index l.at l.initial.f l.f
