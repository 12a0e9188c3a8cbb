use Rattle.std.proofs.Common.{◌∙◌, sym, None}
use Rattle.call_trace.proofs.Early.{fault_same, fault_is}
use Rattle.call_trace.proofs.first_overtaking.is_any_early.Goals as goal

pub loop-index-preserved : goal.loop-index-preserved
loop-index-preserved c =
    fault_same c.args.steps.now c.loop-index.index c.index-steps-index.result c.args.until.now None c.loop-index-test.true c.index-steps-index.is c.requires (sym c.is_early.ensures ∙ c.if-is_early.false) c.loop-index.invariant

pub returns : goal.returns
returns c = λ _. fault_is c.args.steps.now c.loop-index.index None c.loop-index-test.false c.loop-index.invariant
