use Rattle.std.proofs.Output.{has_written_of_eq}
use Rattle.picture.specs.Picture.{style}
use Rattle.picture.proofs.Writing.{five}
use Rattle.picture.proofs.svg.style.StyleDisplay.fmt.Goals as goal

pub returns-clause-writes : goal.returns-clause-writes
unfolding style
returns-clause-writes g c plain ok =
    has_written_of_eq g.W.Write.write_str_gives c.args.f.now _ _ c.write.new.self
    (five c.letters-letters.ensures c.strokes-strokes.ensures c.marks-marks.ensures c.dark-dark.ensures c.tip-tip.ensures) (c.write.ensures.writes plain ok)
