use Rattle.std.proofs.Common.{refl, inr}
use Rattle.report_lines.specs.declared.answer.Answer.TheVariants.{Fault}
use Rattle.report_lines.specs.declared.fault.Fault.TheVariants.{OutOfMemory}
use Rattle.command_run.specs.Answers.{edition_asked}
use Rattle.command_run.specs.CommandAnswers.{AnswersFrame}
use Rattle.command_run.specs.Runs.{Wrote}
use Rattle.command_run.proofs.Told.{told}
use Rattle.command_run.proofs.commands.hex_frame.say_frame.Goals as goal

pub returns-in-Err : goal.returns-in-Err
returns-in-Err g c =
    told (AnswersFrame (edition_asked c.args.later) c.args.hex.now) (Wrote g.O.Output.contents g.O.Output.is_finished) c.args.out.now c.say-in-Err.new.out (Fault OutOfMemory) c.say-in-Err.result
    (inr (refl, refl)) c.say-in-Err.ensures.status c.say-in-Err.ensures.line
