use Rattle.std.proofs.Common.{◌≡◌}
use Rattle.wire_steps.specs.Glue.{HasCome}
use Rattle.wire_steps.proofs.end_log.log_of.Given as goal

abbrev pub invariant-loop-step : goal.invariant-loop-step
invariant-loop-step l = HasCome l.own l.peer l.counts l.writer × (l.writer.vat ≡ l.vat)
