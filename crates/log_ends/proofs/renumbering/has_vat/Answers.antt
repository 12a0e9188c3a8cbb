use Rattle.std.proofs.Common.{◌≤◌, below_more, arith}
use Rattle.log_ends.specs.Numbers.{HasVatAt}
use Rattle.log_ends.proofs.renumbering.has_vat.Goals as goal

pub loop-place-preserved : goal.loop-place-preserved
loop-place-preserved c =
    λ k from lt. below_more (λ k. c.args.begin ≤ k → HasVatAt c.args.logs.now k c.args.vat → ⊥) c.loop-place.place (λ k lt from. c.loop-place.invariant k from lt) (λ from. c.if-has_vat_at.ensures) k lt from

pub returns : goal.returns
returns c = λ k from lt. c.loop-place.invariant k from (omega (arith, lt, c.loop-place-test.false))
