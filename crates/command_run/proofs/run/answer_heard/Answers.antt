use Rattle.command_run.specs.CommandAnswers.{AnswersFile, AnswersLogRecords, AnswersReportOf}
use Rattle.command_run.specs.ReportAnswers.{AnswersGraph, AnswersRun}
use Rattle.command_run.specs.Runs.{Wrote}
use Rattle.command_run.proofs.Told.{lines_written}
use Rattle.command_run.proofs.run.answer_heard.Goals as goal

pub returns-in-Graph : goal.returns-in-Graph
returns-in-Graph g c =
    rw c.in-Graph.is
    (lines_written (AnswersReportOf (AnswersGraph c.in-Graph.dot) g.S.Source.read_gives c.args.source.now c.in-Graph.case.now c.say_graph.new.source) (Wrote g.O.Output.contents g.O.Output.is_finished)
    (Wrote g.F.Output.contents g.F.Output.is_finished) c.args.out.now c.say_graph.new.out c.args.file.now c.say_graph.result c.of_lines-in-Graph.result c.of_lines-in-Graph.ensures c.say_graph.ensures)

pub returns-in-Run : goal.returns-in-Run
returns-in-Run g c =
    rw c.in-Run.is
    (lines_written (AnswersReportOf AnswersRun g.S.Source.read_gives c.args.source.now c.in-Run.case.now c.say_run.new.source) (Wrote g.O.Output.contents g.O.Output.is_finished)
    (Wrote g.F.Output.contents g.F.Output.is_finished) c.args.out.now c.say_run.new.out c.args.file.now c.say_run.result c.of_lines-in-Run.result c.of_lines-in-Run.ensures c.say_run.ensures)

pub returns-in-Records : goal.returns-in-Records
returns-in-Records g c =
    let said = c.say_records.ensures in
    rw c.in-Records.is (
      said.0,
      said.1,
      lines_written (AnswersLogRecords (g.S.Source.holds c.args.source.now c.in-Records.name.now) c.in-Records.from c.in-Records.count said.0) (Wrote g.O.Output.contents g.O.Output.is_finished) (Wrote g.F.Output.contents g.F.Output.is_finished) c.args.out.now
          c.say_records.new.out c.args.file.now c.say_records.result c.of_lines-in-Records.result c.of_lines-in-Records.ensures said.2,
    )

pub returns-in-Frames : goal.returns-in-Frames
returns-in-Frames g c =
    let said = c.say_frames.ensures in
    rw c.in-Frames.is (
      said.0,
      said.1,
      lines_written (AnswersFile said.0) (Wrote g.O.Output.contents g.O.Output.is_finished) (Wrote g.F.Output.contents g.F.Output.is_finished) c.args.out.now
          c.say_frames.new.out c.args.file.now c.say_frames.result c.of_lines-in-Frames.result c.of_lines-in-Frames.ensures said.2,
    )

pub returns-in-Draw : goal.returns-in-Draw
returns-in-Draw g c = rw c.in-Draw.is c.say_drawn.ensures
