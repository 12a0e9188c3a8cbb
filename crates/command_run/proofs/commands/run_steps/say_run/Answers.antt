use Rattle.std.proofs.Common.{refl, sym, subst}
use Rattle.case_report.specs.declared.report.Report.{Report as ReportOf}
use Rattle.report_lines.specs.declared.answer.Answer.TheVariants.{Fault, Report}
use Rattle.report_lines.specs.Lines.{answer_status, answer_text, line}
use Rattle.command_run.specs.CommandAnswers.{AnswersReportOf}
use Rattle.command_run.specs.ReportAnswers.{AnswersRun, ShowsSteps}
use Rattle.command_run.specs.Runs.{Wrote}
use Rattle.command_run.proofs.Judged.{fault_is, no_steps, report_is, said}
use Rattle.command_run.proofs.Told.{told}
use Rattle.command_run.proofs.commands.run_steps.say_run.Goals as goal

pub returns-in-Err : goal.returns-in-Err
returns-in-Err g c =
    told (AnswersReportOf AnswersRun g.S.Source.read_gives c.args.source.now c.args.name.now c.case_report.new.source) (Wrote g.O.Output.contents g.O.Output.is_finished)
    c.args.out.now c.say.new.out (Fault c.in-Err.fault) c.say.result
    (fault_is AnswersRun g.S.Source.read_gives c.args.source.now c.case_report.new.source c.args.name.now c.in-Err.fault c.in-Err.ensures)
    c.say.ensures.status c.say.ensures.line

pub returns-in-Yes : goal.returns-in-Yes
returns-in-Yes g c =
    let yes = c.in-Yes in
    said AnswersRun (ShowsSteps yes.run') g.S.Source.read_gives c.args.source.now c.case_report.new.source c.args.name.now c.in-Ok.report (Wrote g.O.Output.contents g.O.Output.is_finished)
    c.args.out.now c.say_steps.new.out c.say_steps.result c.in-Ok.ensures
    (λ text status shows. subst (λ (report : ReportOf). AnswersRun report text status) (sym yes.is) shows) c.say_steps.ensures

pub returns-in_default : goal.returns-in_default
returns-in_default g c =
    let report = c.in-Ok.report in
    told (AnswersReportOf AnswersRun g.S.Source.read_gives c.args.source.now c.args.name.now c.case_report.new.source) (Wrote g.O.Output.contents g.O.Output.is_finished)
    c.args.out.now c.say-in_default.new.out (Report report) c.say-in_default.result
    (report_is AnswersRun g.S.Source.read_gives c.args.source.now c.case_report.new.source c.args.name.now report (line (answer_text (Report report))) (answer_status (Report report)) c.in-Ok.ensures
    (no_steps report (line (answer_text (Report report))) (answer_status (Report report)) c.in_default.not-Yes
    (refl, refl)))
    c.say-in_default.ensures.status c.say-in_default.ensures.line
