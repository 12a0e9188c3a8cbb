use Rattle.std.proofs.Common.{◌∷◌, subst}
use Rattle.lock_step.specs.QueuedFrames.{AreWaitingFrames}
use Rattle.lock_step.proofs.Cutting.{frames_left}
use Rattle.lock_step.proofs.waiting_frames.WaitingFrames.leave.Goals as goal

pub invariant_of-self-2 : goal.invariant_of-self-2
invariant_of-self-2 c =
    let before = c.self.inside in
    let ends : AreWaitingFrames (c.in-Some.size ∷ c.pop_front.new.self.items) before.begin before.bytes.items =
    subst (λ sizes. AreWaitingFrames sizes before.begin before.bytes.items) c.in-Some.ensures.items c.self.invariant in
    frames_left c.pop_front.new.self.items before.bytes.items c.compact-self-inside.new.bytes.items before.begin c.compact-self-inside.result c.in-Some.size ends c.compact-self-inside.ensures.rest c.compact-self-inside.ensures.within
