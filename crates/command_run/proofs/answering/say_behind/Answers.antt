use Rattle.command_run.specs.Runs.{Wrote}
use Rattle.command_run.proofs.Told.{said_behind}
use Rattle.command_run.proofs.answering.say_behind.Goals as goal

pub returns-in-Ok : goal.returns-in-Ok
returns-in-Ok g c =
    said_behind c.args.saved _ c.args.answer.now (Wrote g.O.Output.contents g.O.Output.is_finished) c.args.out.now c.say_lent.new.out c.say_lent.result c.of_lines.result c.in-Ok.is c.of_lines.ensures
    c.say_lent.ensures.status c.say_lent.ensures.line
