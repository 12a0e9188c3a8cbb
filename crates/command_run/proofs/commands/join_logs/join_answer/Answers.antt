use Rattle.std.proofs.Common.{Ok}
use Rattle.command_run.proofs.commands.join_logs.join_answer.Goals as goal

pub returns-in-Ok-answer_of_logs : goal.returns-in-Ok-answer_of_logs
returns-in-Ok-answer_of_logs g c = (Ok c.in-Ok.logs.items, (c.in-Ok.ensures, rw c.deref.ensures.value at c.in-Ok-answer_of_logs.ensures))
