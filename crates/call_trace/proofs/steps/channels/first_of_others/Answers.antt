use Rattle.std.proofs.Common.{◌∙◌, eq-eqb}
use Rattle.call_trace.proofs.Passing.{own_passed}
use Rattle.call_trace.proofs.steps.channels.first_of_others.Goals as goal

pub loop-place-preserved : goal.loop-place-preserved
loop-place-preserved c = own_passed c.args.vat c.args.sends.now c.loop-place.place c.loop-place-test.true (eq-eqb _ _ c.if-sends-place.true) ∙ c.loop-place.invariant
