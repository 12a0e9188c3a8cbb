use Rattle.std.proofs.Common.{◌≡◌, ◌∙◌, ◌+◌, sym, ap, refl, drop, get_or, length, Some, arith}
use Rattle.std.proofs.lemmas.List.{drop_more, drop_all}
use Rattle.std.specs.Prelude.{map}
use Rattle.std.specs.Arc.{arc_value}
use Rattle.merge_order.proofs.Steps.{checked_none, checked_more, checked_fails, checked_fits, checked_left, fault_is, fault_fits}
use Rattle.merge_order.proofs.Totals.{came_begin}
use Rattle.merge_order.proofs.order_check.check_order.Goals as goal

pub loop-step-init : goal.loop-step-init
loop-step-init c = rw c.in_ok-progress.ensures (checked_none _ _, came_begin (map arc_value c.args.logs.now))

pub take-requires-clause-few : goal.take-requires-clause-few
take-requires-clause-few c = omega (arith, c.loop-step.invariant.1, c.loop-step-test.true)

pub loop-step-preserved : goal.loop-step-preserved
loop-step-preserved c =
    let vats = c.as_slice-vats.result.now in
    let at = c.loop-step.step in
    let front = drop_more vats at 0 (omega (arith, c.loop-step-test.true)) in (
      rw c.in_ok-take.ensures.later (checked_more c.loop-step.progress at (get_or vats at 0) (drop at vats) (drop (at + 1) vats) _ c.loop-step.invariant.0 front (sym c.may_come.ensures ∙ c.if-not-may_come.false)),
      omega (arith, c.in_ok-take.ensures.count, c.loop-step.invariant.1),
    )

pub returns-then-not-may_come-clause-exact : goal.returns-then-not-may_come-clause-exact
returns-then-not-may_come-clause-exact c =
    let vats = c.as_slice-vats.result.now in
    let at = c.loop-step.step in
    let front = drop_more vats at 0 (omega (arith, c.loop-step-test.true)) in
    fault_is _ _ _ _ _ c.as_slice-vats.ensures (checked_fails c.loop-step.progress at (get_or vats at 0) (drop at vats) (drop (at + 1) vats) _ c.loop-step.invariant.0 front (sym c.may_come.ensures ∙ c.if-not-may_come.true)) refl

pub returns-then-not-may_come-clause-fits : goal.returns-then-not-may_come-clause-fits
returns-then-not-may_come-clause-fits c =
    let vats = c.as_slice-vats.result.now in
    let at = c.loop-step.step in
    let front = drop_more vats at 0 (omega (arith, c.loop-step-test.true)) in
    fault_fits _ _ _ _ _ c.as_slice-vats.ensures (checked_fails c.loop-step.progress at (get_or vats at 0) (drop at vats) (drop (at + 1) vats) _ c.loop-step.invariant.0 front (sym c.may_come.ensures ∙ c.if-not-may_come.true)) refl

pub returns-then-is_used_up-clause-exact : goal.returns-then-is_used_up-clause-exact
returns-then-is_used_up-clause-exact c =
    let vats = c.as_slice-vats.result.now in
    let at = c.loop-step.step in
    fault_is _ _ _ _ _ c.as_slice-vats.ensures (checked_fits c.loop-step.progress at (drop at vats) _ c.loop-step.invariant.0 (drop_all at vats (omega (arith, c.loop-step-test.false))) (sym c.is_used_up.ensures ∙ c.if-is_used_up.true)) refl

pub returns-then-is_used_up-clause-fits : goal.returns-then-is_used_up-clause-fits
returns-then-is_used_up-clause-fits c =
    let vats = c.as_slice-vats.result.now in
    let at = c.loop-step.step in
    fault_fits _ _ _ _ _ c.as_slice-vats.ensures (checked_fits c.loop-step.progress at (drop at vats) _ c.loop-step.invariant.0 (drop_all at vats (omega (arith, c.loop-step-test.false))) (sym c.is_used_up.ensures ∙ c.if-is_used_up.true)) refl

pub returns-clause-exact : goal.returns-clause-exact
returns-clause-exact c =
    let vats = c.as_slice-vats.result.now in
    let at = c.loop-step.step in
    let left = checked_left c.loop-step.progress at (drop at vats) _ c.loop-step.invariant.0 (drop_all at vats (omega (arith, c.loop-step-test.false))) (sym c.is_used_up.ensures ∙ c.if-is_used_up.false) in
    let whole : at ≡ length vats = omega (arith, c.loop-step-test.false, c.loop-step.auto.step-end) in
    fault_is _ _ _ _ _ c.as_slice-vats.ensures (left ∙ ap Some whole) refl

pub returns-clause-fits : goal.returns-clause-fits
returns-clause-fits c =
    let vats = c.as_slice-vats.result.now in
    let at = c.loop-step.step in
    let left = checked_left c.loop-step.progress at (drop at vats) _ c.loop-step.invariant.0 (drop_all at vats (omega (arith, c.loop-step-test.false))) (sym c.is_used_up.ensures ∙ c.if-is_used_up.false) in
    let whole : at ≡ length vats = omega (arith, c.loop-step-test.false, c.loop-step.auto.step-end) in
    fault_fits _ _ _ _ _ c.as_slice-vats.ensures (left ∙ ap Some whole) refl
