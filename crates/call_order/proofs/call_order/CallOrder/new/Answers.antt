use Rattle.std.proofs.Common.{sym, subst}
use Rattle.std.specs.List.{zip}
use Rattle.call_order.specs.Glue.Reached.{IsReached}
use Rattle.call_order.proofs.Reaching.{reached_begin}
use Rattle.call_order.proofs.call_order.CallOrder.new.Goals as goal

pub invariant_of-result : goal.invariant_of-result
invariant_of-result c = λ _.
    subst (λ vats. IsReached (zip vats c.new-4.result.items) c.new.result c.new-2.result) (sym c.new-3.ensures)
    (reached_begin c.new.result c.new.ensures.names c.new.ensures.ones c.new.ensures.calls c.new.ensures.told c.new-2.result c.new-2.ensures)
