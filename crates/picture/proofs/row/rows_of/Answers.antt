use Rattle.std.proofs.Common.{◌∙◌, ◌++◌, ap}
use Rattle.std.specs.Option.{option_to_list}
use Rattle.picture.specs.Rows.{row_at}
use Rattle.picture.proofs.Listing.{ranged}
use Rattle.picture.proofs.row.rows_of.Goals as goal

pub loop-row-preserved : goal.loop-row-preserved
loop-row-preserved c =
    ranged (row_at c.args.scene.now) c.loop-row.row c.loop-row.rows.items _ c.loop-row.invariant
    (c.in_ok-rows.ensures ∙ ap (λ o. c.loop-row.rows.items ++ option_to_list o) c.in_ok-made.ensures)
