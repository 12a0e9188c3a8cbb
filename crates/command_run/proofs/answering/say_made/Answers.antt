use Rattle.std.proofs.Common.{refl, option_map}
use Rattle.command_run.specs.Glue.{IsMade}
use Rattle.command_run.proofs.Told.{written_behind}
use Rattle.command_run.proofs.answering.say_made.Goals as goal

pub returns : goal.returns
returns g c =
    written_behind (IsMade c.args.made) _ _ c.args.out.now c.say_behind-said.new.out c.args.file.now c.save-saved.new.file c.args.made.answer
    (option_map (λ bytes. bytes) c.args.made.bytes) c.save-saved.result c.say_behind-said.result (refl, refl, refl) c.save-saved.ensures.saves c.save-saved.ensures.fails
    c.say_behind-said.ensures
