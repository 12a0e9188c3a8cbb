use Rattle.std.specs.Prelude.{⊤}
use Rattle.command_run.proofs.Mapped.{carried}
use Rattle.told_runs.proofs.noted_run.run_with_notes.Goals as goal

pub returns : goal.returns
returns g c =
    rw c.look_back.ensures
    (carried g.W.Write.contents (λ _. ⊤) g.F.Write.contents (λ _. ⊤) c.args.out.now c.answer_heard-answered.new.out c.args.file.now c.answer_heard-answered.new.file c.answer_heard-answered.result c.unwrap_or.result
    c.unwrap_or.ensures g.S.Source.read_gives g.S.Source.holds c.args.command.now c.args.noted.now.source c.answer_heard-answered.new.source c.answer_heard-answered.ensures)
