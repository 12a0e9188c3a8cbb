use Rattle.picture.specs.Places.{is_vat}
use Rattle.picture.proofs.Stepping.{counts, counts_not}
use Rattle.picture.proofs.order.positions.record_number.Goals as goal
use Rattle.picture.proofs.order.positions.record_number.Goals.{then-is_step_of, else-is_step_of}

pub loop-at-preserved : goal.loop-at-preserved
loop-at-preserved c =
    elim c.if-is_step_of.branch [
      | then-is_step_of w ↦ rw w.before-is (counts (is_vat c.args.vat) c.args.order.now c.loop-at.at c.loop-at.before c.is_step_of.result c.loop-at.invariant.0 c.loop-at.invariant.1 c.is_step_of.ensures w.if-is_step_of.true)
      | else-is_step_of w ↦ rw w.before-is (counts_not (is_vat c.args.vat) c.args.order.now c.loop-at.at c.loop-at.before c.is_step_of.result c.loop-at.invariant.0 c.loop-at.invariant.1 c.is_step_of.ensures w.if-is_step_of.false)
    ]
