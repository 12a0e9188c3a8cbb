use Rattle.std.proofs.Common.{ℕ, List, Option, sym, subst}
use Rattle.merge_order.specs.Fits.{Part}
use Rattle.merge_order.specs.Waits.{IsQueued, IsWoken}
use Rattle.merge_order.proofs.Scheduling.{queued_after}
use Rattle.merge_order.proofs.schedule.Schedule.step.Goals as goal

pub first_to_come-requires : goal.first_to_come-requires
first_to_come-requires c =
    let ready = c.args.ready.now in
    let waiting = c.args.waiting.now in
    let woken = subst (λ (sent : Option ℕ). IsWoken sent ready c.wake.new.ready waiting c.wake.new.waiting) c.in_ok-sent.ensures.sent c.in_ok-wake.ensures in
    subst (λ (ps : List Part). IsQueued ps c.wake.new.ready c.wake.new.waiting) (sym c.in_ok-sent.ensures.later)
    (queued_after c.args.progress.now ready c.wake.new.ready waiting c.wake.new.waiting c.args.vat c.requires.queued c.requires.may woken)
