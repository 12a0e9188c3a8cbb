use Rattle.std.proofs.Common.{sym, arith}
use Rattle.std.specs.Prelude.{◌==◌}
use Rattle.run_model.specs.Steps.{vat_of}
use Rattle.picture.proofs.Stepping.{found, goes_by, passes_by, found_none}
use Rattle.picture.proofs.call_makers.step_at.Goals as goal
use Rattle.picture.proofs.call_makers.step_at.Goals.{then-is_own+else-left-eq0, else-is_own}

pub returns-then-left-eq0 : goal.returns-then-left-eq0
returns-then-left-eq0 c =
    sym (found (λ step. vat_of step == c.args.place.vat) c.args.steps.now c.loop-at.at c.loop-at.left _ c.is_own.result c.loop-at.invariant c.is_own.ensures c.if-is_own.true c.if-left-eq0.true)

pub loop-at-preserved : goal.loop-at-preserved
loop-at-preserved c =
    elim c.if-is_own.branch [
      | then-is_own+else-left-eq0 w ↦ rw w.left-is (goes_by (λ step. vat_of step == c.args.place.vat) c.args.steps.now c.loop-at.at c.loop-at.left _ c.is_own.result c.loop-at.invariant c.is_own.ensures w.if-is_own.true w.if-left-eq0.false)
      | else-is_own w ↦ rw w.left-is (passes_by (λ step. vat_of step == c.args.place.vat) c.args.steps.now c.loop-at.at c.loop-at.left _ c.is_own.result c.loop-at.invariant c.is_own.ensures w.if-is_own.false)
    ]

pub returns : goal.returns
returns c = sym (found_none (λ step. vat_of step == c.args.place.vat) c.args.steps.now c.loop-at.at c.loop-at.left _ c.loop-at.invariant (omega (arith, c.loop-at-test.false)))
