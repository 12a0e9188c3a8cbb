use Rattle.std.proofs.Common.{◌∷◌, sym, subst}
use Rattle.std.specs.List.{zip}
use Rattle.call_order.specs.Glue.Reached.{IsReached}
use Rattle.call_order.specs.Glue.Tables.{IsDone}
use Rattle.call_order.proofs.Reaching.{reached_more}
use Rattle.call_order.proofs.call_order.CallOrder.take.Goals as goal

pub invariant_of-self-2 : goal.invariant_of-self-2
invariant_of-self-2 c = λ _.
    let before = c.self.inside in
    let done = subst (λ deed. IsDone c.args.vat c.in_ok-number.number deed before.tables c.apply.new.self) c.deed_of.ensures c.in_ok-apply.ensures in
    subst (λ vats. IsReached (zip vats c.with-self-inside-2.result.items) c.apply.new.self c.next.new.self) (sym c.with-self-inside.ensures)
    (subst (λ records. IsReached (zip (c.args.vat ∷ before.vats.items) records) c.apply.new.self c.next.new.self) (sym c.with-self-inside-2.ensures)
    (reached_more (zip before.vats.items before.records.items) c.args.vat c.args.body.now before.tables c.apply.new.self before.counts c.next.new.self c.in_ok-number.number (c.self.invariant c.if-self.false)
    c.in_ok-number.ensures.number c.in_ok-number.ensures.counts done))
