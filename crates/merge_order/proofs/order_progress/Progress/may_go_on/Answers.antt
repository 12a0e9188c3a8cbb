use Rattle.std.proofs.Common.{◌∙◌, sym, ap}
use Rattle.std.specs.Prelude.{nat_lt}
use Rattle.merge_order.proofs.Steps.{may_receive}
use Rattle.merge_order.proofs.order_progress.Progress.may_go_on.Goals as goal

pub returns-in-Receive : goal.returns-in-Receive
returns-in-Receive c =
    may_receive c.args.self.now c.args.own.now.log.vat c.args.own.now c.in-Some.event.now c.in-Receive.connection c.in-Receive.call c.in-Receive.references c.in-Receive.frame c.received.result _
    (sym c.requires) c.in-Some.ensures (sym c.body.ensures.value ∙ c.in-Receive.is) c.received.ensures (ap (nat_lt c.received.result) c.sent_by_others.ensures)
