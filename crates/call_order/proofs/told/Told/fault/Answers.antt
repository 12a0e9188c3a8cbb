use Rattle.std.proofs.Common.{◌∙◌, sym, subst}
use Rattle.call_order.proofs.Least.{IsLeastSoFar, least_begin, least_next, least_end}
use Rattle.call_order.proofs.told.Told.fault.Goals as goal

pub loop-calls-init : goal.loop-calls-init
loop-calls-init c = least_begin c.args.self.now c.into_iter-calls-iterator.result (c.into_iter-calls-iterator.ensures.into_iter_gives ∙ c.values-calls-items.ensures.rest)

pub loop-calls-preserved : goal.loop-calls-preserved
loop-calls-preserved c =
    subst (λ least. IsLeastSoFar c.args.self.now least c.next.new.self) (sym c.lesser-least.ensures)
    (least_next c.args.self.now c.values-calls-items.ensures.ordered c.loop-calls.least c.fault.result c.in-Some.calls.now c.next.new.self c.loop-calls.calls-iterator c.loop-calls.invariant c.in-Some.ensures.steps c.fault.ensures)

pub returns : goal.returns
returns c = least_end c.args.self.now c.values-calls-items.ensures.ordered c.loop-calls.least c.loop-calls.calls-iterator c.loop-calls.invariant c.in-None.ensures.steps.0
