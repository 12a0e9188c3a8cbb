use Rattle.std.proofs.Common.{refl}
use Rattle.picture.specs.Picture.{shape_text}
use Rattle.picture.proofs.Writing.{writes_next}
use Rattle.picture.proofs.svg.element_lists.ShapesDisplay.fmt.Goals as goal

pub loop-row-preserved : goal.loop-row-preserved
loop-row-preserved g c =
    writes_next g.W.Write.write_str_gives (shape_text c.args.self.now.linked) c.deref-row-items.result.now c.loop-row.row-index c.row-item.result c.row-item.result
    c.args.f.now c.loop-row.f c.write.new.self c.loop-row-test.true c.row-item.is c.loop-row.invariant
    (λ plain. c.in_ok-write.ensures.writes plain refl)
