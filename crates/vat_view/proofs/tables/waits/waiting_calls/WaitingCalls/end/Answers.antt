use Rattle.std.proofs.Common.{◌∙◌, sym, ap, Some}
use Rattle.vat_view.proofs.Queueing.{has_left}
use Rattle.vat_view.proofs.tables.waits.waiting_calls.WaitingCalls.end.Goals as goal

pub returns-in-Some-Some-clause-left : goal.returns-in-Some-Some-clause-left
returns-in-Some-Some-clause-left c =
    has_left c.args.self.now c.args.heading c.args.taken c.in-Some.call c.in-Some.is c.in-Some-Some.receipt
    (sym c.remove.ensures.value ∙ c.in-Some-Some.is ∙ ap Some c.in-Some-Some.field-0-is)
    (record { entries = c.remove.new.self; queue = c.remove-in-Some-Some.new.self }) c.new-queued.result
    c.new-queued.ensures c.remove-in-Some-Some.ensures.updates.1
