use Rattle.std.proofs.Common.{rules}
use Rattle.vat_view.proofs.apply.calls.received_step.Goals as goal

pub returns-else-is_late : goal.returns-else-is_late
returns-else-is_late c = rw c.moved.ensures (rw c.opening_call.ensures (rw c.of_receiver-question.ensures (search rules)))

pub returns-else-is_none : goal.returns-else-is_none
returns-else-is_none c =
    rw c.moved-in-Return-default-TakeFrom.ensures
    (rw c.opening_call-in-Return-default-TakeFrom.ensures
    (rw c.of_receiver-question-in-Return-default-TakeFrom.ensures (search rules)))
