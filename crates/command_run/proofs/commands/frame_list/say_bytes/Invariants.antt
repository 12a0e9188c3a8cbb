use Rattle.std.proofs.Common.{length}
use Rattle.command_run.proofs.Falling.{AreShown}
use Rattle.command_run.proofs.commands.frame_list.say_bytes.Given as goal

abbrev pub invariant-loop-alloc : goal.invariant-loop-alloc
invariant-loop-alloc g l = AreShown l.fn.bytes (g.O.Output.contents l.initial.out) (g.O.Output.contents l.out) l.rest l.status × g.O.Output.can_write l.out

abbrev pub decreases-loop-alloc : goal.decreases-loop-alloc
decreases-loop-alloc g l = length l.rest
