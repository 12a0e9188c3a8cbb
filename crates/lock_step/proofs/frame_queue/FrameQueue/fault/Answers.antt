use Rattle.std.proofs.Common.{◌≡◌, ◌<◌, ◌≤◌, length, Some, sym, ap, ◌∙◌, arith}
use Rattle.std.proofs.lemmas.List.{length-reverse}
use Rattle.std.specs.Prelude.{reverse}
use Rattle.link_check.proofs.Faults.{least_from_some, prefix_from_none}
use Rattle.lock_step.proofs.Comparing.{ahead_is, difference_is, least_is, none_is}
use Rattle.lock_step.proofs.frame_queue.FrameQueue.fault.Goals as goal

pub returns-then-is_some-clause-exact : goal.returns-then-is_some-clause-exact
returns-then-is_some-clause-exact c = rw (← c.self.view_is) (difference_is _ _ _ c.self.inside.comparison.difference (sym c.is_some.ensures ∙ c.if-is_some.true) c.self.invariant.compared)

pub returns-then-is_some-clause-some : goal.returns-then-is_some-clause-some
returns-then-is_some-clause-some c = least_is _ _ c.self.inside.comparison.difference (returns-then-is_some-clause-exact c)

pub returns-then-self-clause-exact : goal.returns-then-self-clause-exact
returns-then-self-clause-exact c =
    let held = c.self.invariant in
    let sent = length-reverse c.self.inside.sent.items in
    let received = length-reverse c.self.inside.received.items in
    let count : c.self.inside.sent_count ≡ length (reverse c.self.inside.sent.items) = omega (arith, held.sent_counted) in
    let fewer : length (reverse c.self.inside.sent.items) < length (reverse c.self.inside.received.items) = omega (arith, c.if-self.true, held.received_counted, count) in
    rw (← c.self.view_is) (ap Some count ∙ ahead_is _ _ _ c.self.inside.comparison.difference (sym c.is_some.ensures ∙ c.if-is_some.false) fewer held.compared)

pub returns-then-self-clause-some : goal.returns-then-self-clause-some
returns-then-self-clause-some c = least_from_some _ _ _ (sym (returns-then-self-clause-exact c))

pub returns-clause-exact : goal.returns-clause-exact
returns-clause-exact c =
    let held = c.self.invariant in
    let sent = length-reverse c.self.inside.sent.items in
    let received = length-reverse c.self.inside.received.items in
    let enough : length (reverse c.self.inside.received.items) ≤ length (reverse c.self.inside.sent.items) = omega (arith, c.if-self.false, held.received_counted, held.sent_counted) in
    rw (← c.self.view_is) (none_is _ _ _ c.self.inside.comparison.difference (sym c.is_some.ensures ∙ c.if-is_some.false) enough held.compared)

pub returns-clause-none : goal.returns-clause-none
returns-clause-none c = prefix_from_none _ _ (sym (returns-clause-exact c))
