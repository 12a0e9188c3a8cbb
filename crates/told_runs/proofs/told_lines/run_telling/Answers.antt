use Rattle.std.specs.Prelude.{None, ⊤}
use Rattle.command_run.specs.Runs.{Wrote}
use Rattle.told_runs.proofs.TellsMapped.{tells}
use Rattle.told_runs.proofs.told_lines.run_telling.Goals as goal

pub returns : goal.returns
returns g c =
    rw c.look_back_if.ensures
    (tells (Wrote (λ _. None) (λ _. ⊤)) g.F.Write.contents (λ _. ⊤) c.args.out.now c.answer_heard-told.new.out c.args.file.now c.answer_heard-told.new.file c.answer_heard-told.result c.end_lines.result c.end_lines.ensures
    g.S.Source.read_gives g.S.Source.holds c.args.command.now c.args.noted.now.source c.answer_heard-told.new.source c.answer_heard-told.ensures)
