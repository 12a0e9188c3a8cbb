use Rattle.std.specs.Prelude.{⊤}
use Rattle.command_run.proofs.Mapped.{carried}
use Rattle.command_run.proofs.run.run_on.Goals as goal

pub returns : goal.returns
returns g c =
    carried g.W.Write.contents (λ _. ⊤) g.F.Write.contents (λ _. ⊤) c.args.out.now c.answer_command.new.out c.args.file.now c.answer_command.new.file c.answer_command.result c.unwrap_or.result
    c.unwrap_or.ensures g.S.Source.read_gives g.S.Source.holds c.args.command.now c.args.source.now c.answer_command.new.source c.answer_command.ensures
