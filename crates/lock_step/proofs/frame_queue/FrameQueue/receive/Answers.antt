use Rattle.std.proofs.Common.{arith}
use Rattle.std.proofs.lemmas.List.{length-reverse}
use Rattle.std.specs.Prelude.{reverse}
use Rattle.lock_step.proofs.Comparing.{in_second, other_way}
use Rattle.lock_step.proofs.frame_queue.FrameQueue.receive.Goals as goal

pub invariant_of-self-2 : goal.invariant_of-self-2
invariant_of-self-2 c =
    let held = c.self.invariant in
    let own = reverse c.self.inside.received.items in
    let other = reverse c.self.inside.sent.items in
    rw c.with-self-inside.ensures (record {
      sent_counted = held.sent_counted;
      received_counted = omega (arith, held.received_counted, c.in-Some.ensures);
      compared = in_second other c.self.inside.received.items c.args.frame.now c.take.new.self.waiting c.take.new.self.difference (rw c.as_slice.ensures at (c.in_ok-take.ensures.ok own other (omega (arith, held.received_counted, length-reverse c.self.inside.received.items))
          (omega (arith, held.sent_counted, length-reverse c.self.inside.sent.items)) (other_way _ _ _ c.self.inside.comparison.difference held.compared)));
    })
