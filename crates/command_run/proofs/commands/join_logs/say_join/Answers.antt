use Rattle.std.proofs.Common.{map}
use Rattle.command_run.specs.Glue.{joined_bytes}
use Rattle.command_run.specs.JoinAnswers.{AnswersJoin}
use Rattle.command_run.proofs.Told.{written_behind}
use Rattle.command_run.proofs.commands.join_logs.say_join.Goals as goal

pub returns : goal.returns
returns g c =
    let made = c.join_answer-made.result in
    written_behind
    (λ text status bytes. AnswersJoin g.S.Source.read_gives c.args.source.now (map (λ name. name.now) c.args.names.now) c.args.folder.now text status bytes c.join_answer-made.new.source)
    _ _ c.args.out.now c.say_behind-said.new.out c.args.file.now c.save_folder-saved.new.file made.answer (joined_bytes made.folder) c.save_folder-saved.result c.say_behind-said.result
    c.join_answer-made.ensures c.save_folder-saved.ensures.saves c.save_folder-saved.ensures.fails c.say_behind-said.ensures
