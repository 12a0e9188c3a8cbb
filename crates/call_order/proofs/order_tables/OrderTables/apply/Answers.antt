use Rattle.std.proofs.Common.{sym, subst}
use Rattle.call_trace.proofs.Keeping.{on_ok}
use Rattle.call_order.specs.Glue.Tables.{IsDone}
use Rattle.call_order.proofs.order_tables.OrderTables.apply.Goals as goal

pub returns-in-Receive : goal.returns-in-Receive
returns-in-Receive c =
    on_ok c.receive.result (λ done. subst (λ deed. IsDone c.args.vat c.args.number deed c.args.self.now c.receive.new.self) (sym c.in-Receive.is) (done c.args.number)) c.receive.ensures
