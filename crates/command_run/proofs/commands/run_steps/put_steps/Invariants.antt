use Rattle.std.proofs.Common.{take}
use Rattle.std.specs.Io.KnownBytes.{Appends}
use Rattle.command_run.specs.ReportAnswers.{step_lines}
use Rattle.command_run.proofs.commands.run_steps.put_steps.Given as goal

abbrev pub invariant-loop-at : goal.invariant-loop-at
invariant-loop-at g l = Appends (g.O.Output.contents l.initial.out) (g.O.Output.contents l.out) (step_lines (take l.at l.step-items)) × g.O.Output.can_write l.out
