use Rattle.std.proofs.Common.{◌≡◌, ◌++◌, refl, ◌∙◌}
use Rattle.lock_step.proofs.Cutting.{frames_more, if_ok}
use Rattle.lock_step.proofs.waiting_frames.WaitingFrames.push.Goals as goal

pub returns-clause-ok : goal.returns-clause-ok
returns-clause-ok c = if_ok c.extend_from_slice.result (λ done.
    let bytes : c.extend_from_slice.new.self.items ≡ c.self.inside.bytes.items ++ c.args.frame.now =
    c.extend_from_slice.ensures.items ∙ rw (done, c.in_ok-reserve.ensures.items) refl in
    rw (← c.self.view_is, c.in_ok-push_back.ensures.items, bytes) (frames_more c.self.inside.sizes.items c.self.inside.bytes.items c.args.frame.now c.self.inside.begin c.in-Ok.size c.self.invariant c.in-Ok.ensures.1))
