use Rattle.std.proofs.Common.{arith}
use Rattle.std.proofs.lemmas.Grind.{common_steps}
use Rattle.std.proofs.lemmas.List.{reverse-append}
use Rattle.lock_step.proofs.Ways.{added_one}
use Rattle.lock_step.proofs.link_states.LinkStates.new.Goals as goal

pub loop-link-preserved : goal.loop-link-preserved
loop-link-preserved c =
    record {
      added = rw c.with-added.ensures (grind (arith, common_steps, reverse-append, c.loop-link.invariant.added));
      states = rw c.with-added.ensures (added_one c.loop-link.added.items _ c.loop-link.table c.add.new.self c.loop-link.invariant.states c.in_ok-add.ensures);
    }
