use Rattle.std.proofs.Common.{refl}
use Rattle.picture.specs.Picture.{arrow_text}
use Rattle.picture.proofs.Writing.{writes_next}
use Rattle.picture.proofs.svg.element_lists.ArrowsDisplay.fmt.Goals as goal

pub loop-arrow-preserved : goal.loop-arrow-preserved
loop-arrow-preserved g c =
    writes_next g.W.Write.write_str_gives arrow_text c.deref-arrow-items.result.now c.loop-arrow.arrow-index _ _
    c.args.f.now c.loop-arrow.f c.write.new.self c.loop-arrow-test.true refl c.loop-arrow.invariant
    (λ plain. c.in_ok-write.ensures.writes plain refl)
