use Rattle.std.proofs.Common.{◌∙◌, ◌++◌, ap}
use Rattle.std.specs.Option.{option_to_list}
use Rattle.picture.specs.Rows.{arrow_of}
use Rattle.picture.proofs.Listing.{filtered}
use Rattle.picture.proofs.arrow.arrows_of.Goals as goal

pub loop-row-preserved : goal.loop-row-preserved
loop-row-preserved c =
    filtered (arrow_of c.args.scene.now) c.args.rows.now c.loop-row.row-index c.row-item.result c.loop-row.arrows.items _ c.loop-row-test.true c.loop-row.invariant
    (c.in_ok-arrows.ensures ∙ ap (λ o. c.loop-row.arrows.items ++ option_to_list o) (c.in_ok-made.ensures ∙ ap (arrow_of c.args.scene.now) c.row-item.is))
