use Rattle.std.specs.Prelude.{reverse, take}
use Rattle.call_trace.specs.Glue.Turns.{IsReached}
use Rattle.call_trace.proofs.steps.run_naming.name_run.Given as goal

-- the turns so far were taken
abbrev pub invariant-loop-vat : goal.invariant-loop-vat
invariant-loop-vat l = IsReached l.findings (reverse (take l.vat-index l.vats)) l.turns
