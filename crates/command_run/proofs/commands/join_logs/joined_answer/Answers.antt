use Rattle.std.proofs.Common.{refl, arith}
use Rattle.command_run.proofs.commands.join_logs.joined_answer.Goals as goal

pub returns-then-pairs-gt-MAX_LINKS : goal.returns-then-pairs-gt-MAX_LINKS
returns-then-pairs-gt-MAX_LINKS g c = rw (c.fault_answer.ensures.folder, c.fault_answer.ensures.answer) (omega (arith), (refl, refl))

pub returns : goal.returns
returns g c = (c.in_ok-made.ensures, (refl, refl))
