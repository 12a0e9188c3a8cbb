use Rattle.std.proofs.Common.{option_map}
use Rattle.report_lines.specs.Lines.{answer_status, answer_text, line}
use Rattle.command_run.specs.CommandAnswers.{AnswersOrder}
use Rattle.command_run.specs.Glue.{IsMade}
use Rattle.command_run.specs.Runs.{Answering, Wrote}
use Rattle.command_run.proofs.Told.{answers_by, written_by}
use Rattle.command_run.proofs.commands.make_order.say_order.Goals as goal

pub returns : goal.returns
returns g c =
    let made = c.order_answer-made.result in
    let answers : Answering = λ text status bytes. AnswersOrder g.S.Source.read_gives c.args.source.now c.args.name.now text status bytes c.order_answer-made.new.source in
    written_by (IsMade made) answers (Wrote g.O.Output.contents g.O.Output.is_finished) (Wrote g.F.Output.contents g.F.Output.is_finished) c.args.out.now c.say_made.new.out c.args.file.now
    c.say_made.new.file c.say_made.result
    (answers_by answers (line (answer_text made.answer)) (answer_status made.answer) (option_map (λ bytes. bytes) made.bytes) c.order_answer-made.ensures) c.say_made.ensures
