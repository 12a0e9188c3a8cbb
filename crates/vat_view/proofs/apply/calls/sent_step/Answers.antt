use Rattle.std.proofs.Common.{rules}
use Rattle.vat_view.proofs.apply.calls.sent_step.Goals as goal

pub returns-in-Return-default-Exception : goal.returns-in-Return-default-Exception
returns-in-Return-default-Exception c = rw c.moved.ensures (rw c.opening_call.ensures (rw c.of_receiver-question.ensures (search rules)))
