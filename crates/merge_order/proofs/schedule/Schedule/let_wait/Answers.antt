use Rattle.merge_order.proofs.Scheduling.{queued_tried}
use Rattle.merge_order.proofs.schedule.Schedule.let_wait.Goals as goal

pub returns-clause-queued : goal.returns-clause-queued
returns-clause-queued c =
    queued_tried _ c.args.ready.now c.remove.new.self c.args.waiting.now c.put_off.new.waiting c.args.vat c.requires.queued c.requires.not_yet c.in_ok-put_off.ensures c.remove.ensures.others
