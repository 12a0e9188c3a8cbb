use Rattle.std.proofs.Common.{option_map}
use Rattle.report_lines.specs.Lines.{answer_status, answer_text, line}
use Rattle.command_run.specs.CommandAnswers.{AnswersSalvage}
use Rattle.command_run.specs.Glue.{IsMade}
use Rattle.command_run.specs.Runs.{Wrote}
use Rattle.command_run.proofs.Told.{answers_by, written_by}
use Rattle.command_run.proofs.commands.log_salvage.say_salvaged.Goals as goal

pub returns : goal.returns
returns g c =
    let made = c.salvage_answer-made.result in
    let found = c.salvage_answer-made.ensures in (
      found.0,
      found.1,
      written_by (IsMade made) (AnswersSalvage found.0) (Wrote g.O.Output.contents g.O.Output.is_finished) (Wrote g.F.Output.contents g.F.Output.is_finished) c.args.out.now c.say_made.new.out c.args.file.now
          c.say_made.new.file c.say_made.result
          (answers_by (AnswersSalvage found.0) (line (answer_text made.answer)) (answer_status made.answer) (option_map (λ bytes. bytes) made.bytes) found.2) c.say_made.ensures,
    )
