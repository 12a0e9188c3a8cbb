use Rattle.std.proofs.Common.{◌≡◌, drop}
use Rattle.log_lane.proofs.records_ahead.let_go.Given as goal

-- so many went
abbrev pub invariant-loop : goal.invariant-loop
invariant-loop l = l.records.items ≡ drop l.counter l.fn.records.items
