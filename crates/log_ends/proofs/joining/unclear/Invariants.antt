use Rattle.std.proofs.Common.{ℕ, ◌<◌}
use Rattle.log_ends.specs.Joining.{IsClear}
use Rattle.log_ends.specs.Glue.{end_at}
use Rattle.log_ends.proofs.joining.unclear.Given as goal

abbrev pub invariant-loop-place : goal.invariant-loop-place
invariant-loop-place l = (k : ℕ) → k < l.place → IsClear l.rows.logs.now (end_at l.rows k)
