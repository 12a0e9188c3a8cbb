use Rattle.report_lines.specs.declared.answer.Answer.TheVariants.{Finding, Fault}
use Rattle.command_run.specs.CommandAnswers.{AnswersSource}
use Rattle.command_run.specs.Runs.{Wrote}
use Rattle.command_run.proofs.Told.{told}
use Rattle.command_run.proofs.commands.vat_audit.say_vat.Goals as goal

pub returns-in-Ok : goal.returns-in-Ok
returns-in-Ok g c =
    let found = c.in-Ok.ensures in (
      found.0,
      found.1,
      told (AnswersSource found.0) (Wrote g.O.Output.contents g.O.Output.is_finished) c.args.out.now c.say.new.out (Finding c.in-Ok.finding) c.say.result found.2
          c.say.ensures.status c.say.ensures.line,
    )

pub returns-in-Err : goal.returns-in-Err
returns-in-Err g c =
    let found = c.in-Err.ensures in (
      found.0,
      found.1,
      told (AnswersSource found.0) (Wrote g.O.Output.contents g.O.Output.is_finished) c.args.out.now c.say-in-Err.new.out (Fault c.in-Err.fault) c.say-in-Err.result found.2
          c.say-in-Err.ensures.status c.say-in-Err.ensures.line,
    )
