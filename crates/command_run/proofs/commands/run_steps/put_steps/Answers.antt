use Rattle.std.proofs.Common.{◌∙◌, ap, get_or, refl, sym}
use Rattle.authority.specs.Records.{record_numbers_of}
use Rattle.command_run.proofs.Running.{one_stepped, within}
use Rattle.command_run.proofs.commands.run_steps.put_steps.Goals as goal

pub bounds-numbers-at : goal.bounds-numbers-at
bounds-numbers-at g c = within c.steps-step-items.result.now c.args.numbers.now c.loop-at.at (c.requires.numbers ∙ ap record_numbers_of (sym c.steps-step-items.ensures)) c.loop-at-test.true

pub loop-at-preserved : goal.loop-at-preserved
loop-at-preserved g c = (
  one_stepped c.steps-step-items.result.now c.args.numbers.now c.loop-at.at (get_or c.args.numbers.now c.loop-at.at 0) c.step-item.result
      (g.O.Output.contents c.args.out.now) (g.O.Output.contents c.loop-at.out) (g.O.Output.contents c.write_line.new.self)
      (c.requires.numbers ∙ ap record_numbers_of (sym c.steps-step-items.ensures)) c.loop-at-test.true c.step-item.is refl c.loop-at.invariant.0 c.in_ok-write_line.ensures.line,
  c.in_ok-write_line.ensures.more,
)
