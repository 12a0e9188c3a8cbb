use Rattle.report_lines.specs.declared.answer.Answer.TheVariants.{Fault, Report}
use Rattle.command_run.specs.CommandAnswers.{AnswersReportOf}
use Rattle.command_run.specs.ReportAnswers.{AnswersReport}
use Rattle.command_run.specs.Runs.{Wrote}
use Rattle.command_run.proofs.Judged.{fault_is, line_is}
use Rattle.command_run.proofs.Told.{told}
use Rattle.command_run.proofs.commands.check.say_report.Goals as goal

pub returns-in-Ok : goal.returns-in-Ok
returns-in-Ok g c =
    told (AnswersReportOf AnswersReport g.S.Source.read_gives c.args.source.now c.args.name.now c.case_line.new.source) (Wrote g.O.Output.contents g.O.Output.is_finished)
    c.args.out.now c.say.new.out (Report c.in-Ok.report) c.say.result
    (line_is g.S.Source.read_gives c.args.source.now c.case_line.new.source c.args.name.now c.in-Ok.report c.in-Ok.ensures)
    c.say.ensures.status c.say.ensures.line

pub returns-in-Err : goal.returns-in-Err
returns-in-Err g c =
    told (AnswersReportOf AnswersReport g.S.Source.read_gives c.args.source.now c.args.name.now c.case_line.new.source) (Wrote g.O.Output.contents g.O.Output.is_finished)
    c.args.out.now c.say-in-Err.new.out (Fault c.in-Err.fault) c.say-in-Err.result
    (fault_is AnswersReport g.S.Source.read_gives c.args.source.now c.case_line.new.source c.args.name.now c.in-Err.fault c.in-Err.ensures)
    c.say-in-Err.ensures.status c.say-in-Err.ensures.line
