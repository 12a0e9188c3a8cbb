use Rattle.vat_view.proofs.Holding.{holding_decided}
use Rattle.vat_view.proofs.tables.waits.waiting_calls.WaitingCalls.holds_up.Goals as goal

pub returns : goal.returns
returns c = holding_decided c.args.self.now c.args.calls.now c.args.connection c.args.looped.now c.any_holds.result c.any_holds.ensures
