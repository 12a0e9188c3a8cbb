use Rattle.command_run.proofs.Drawn.{drawn, undrawn}
use Rattle.command_run.proofs.commands.draw_case.draw_answer.Goals as goal

pub returns-in-Ok : goal.returns-in-Ok
returns-in-Ok g c = drawn c.args.asked g.S.Source.read_gives c.args.source.now c.drawing.new.source c.args.name.now c.in-Ok.made c.in-Ok.ensures

pub returns-in-Err : goal.returns-in-Err
returns-in-Err g c =
    rw (c.of_fault.ensures.answer, c.of_fault.ensures.bytes)
    (undrawn c.args.asked g.S.Source.read_gives c.args.source.now c.drawing.new.source c.args.name.now c.in-Err.fault c.in-Err.ensures)
