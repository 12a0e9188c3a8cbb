use Rattle.std.proofs.Common.{option_map}
use Rattle.command_run.specs.Glue.{folder_bytes}
use Rattle.command_run.specs.WireAnswers.{AnswersWire}
use Rattle.command_run.proofs.Told.{written_behind}
use Rattle.command_run.proofs.commands.wire_files.say_wire.Goals as goal

pub returns : goal.returns
returns g c =
    let made = c.wire_answer-made.result in
    let asked = c.args.asked.now in
    written_behind
    (λ text status bytes. AnswersWire g.S.Source.read_gives c.args.source.now asked.a.now asked.b.now (option_map (λ name. name.now) asked.folder) text status bytes c.wire_answer-made.new.source)
    _ _ c.args.out.now c.say_behind-said.new.out c.args.file.now c.save_folder-saved.new.file made.answer (folder_bytes made.folder) c.save_folder-saved.result c.say_behind-said.result
    c.wire_answer-made.ensures c.save_folder-saved.ensures.saves c.save_folder-saved.ensures.fails c.say_behind-said.ensures
