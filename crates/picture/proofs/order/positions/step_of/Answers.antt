use Rattle.std.proofs.Common.{sym, arith}
use Rattle.picture.specs.Places.{is_vat}
use Rattle.picture.proofs.Stepping.{found, goes_by, passes_by, found_none}
use Rattle.picture.proofs.order.positions.step_of.Goals as goal
use Rattle.picture.proofs.order.positions.step_of.Goals.{then-is_step_of+else-left-eq0, else-is_step_of}

pub returns-then-left-eq0 : goal.returns-then-left-eq0
returns-then-left-eq0 c =
    sym (found (is_vat c.args.place.vat) c.args.order.now c.loop-step.step c.loop-step.left _ c.is_step_of.result c.loop-step.invariant c.is_step_of.ensures c.if-is_step_of.true c.if-left-eq0.true)

pub loop-step-preserved : goal.loop-step-preserved
loop-step-preserved c =
    elim c.if-is_step_of.branch [
      | then-is_step_of+else-left-eq0 w ↦ rw w.left-is (goes_by (is_vat c.args.place.vat) c.args.order.now c.loop-step.step c.loop-step.left _ c.is_step_of.result c.loop-step.invariant c.is_step_of.ensures w.if-is_step_of.true w.if-left-eq0.false)
      | else-is_step_of w ↦ rw w.left-is (passes_by (is_vat c.args.place.vat) c.args.order.now c.loop-step.step c.loop-step.left _ c.is_step_of.result c.loop-step.invariant c.is_step_of.ensures w.if-is_step_of.false)
    ]

pub returns : goal.returns
returns c = sym (found_none (is_vat c.args.place.vat) c.args.order.now c.loop-step.step c.loop-step.left _ c.loop-step.invariant (omega (arith, c.loop-step-test.false)))
