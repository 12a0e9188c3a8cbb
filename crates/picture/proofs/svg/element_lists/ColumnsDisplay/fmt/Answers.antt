use Rattle.std.proofs.Common.{refl}
use Rattle.picture.specs.Picture.{column_text}
use Rattle.picture.proofs.Writing.{writes_next}
use Rattle.picture.proofs.svg.element_lists.ColumnsDisplay.fmt.Goals as goal

pub loop-column-preserved : goal.loop-column-preserved
loop-column-preserved g c =
    writes_next g.W.Write.write_str_gives column_text c.deref-column-items.result.now c.loop-column.column-index _ _
    c.args.f.now c.loop-column.f c.write.new.self c.loop-column-test.true refl c.loop-column.invariant
    (λ plain. c.in_ok-write.ensures.writes plain refl)
