use Rattle.std.proofs.Common.{ℕ, ◌<◌, ◌+◌}
use Rattle.std.specs.Prelude.{vec_len}
use Rattle.log_ends.specs.Glue.{HasNoAlike}
use Rattle.log_ends.proofs.likeness.first_alike.Given as goal

abbrev pub invariant-loop-place : goal.invariant-loop-place
invariant-loop-place l = (k : ℕ) → k < l.place → HasNoAlike l.rows k (k + 1) (vec_len l.rows.rows)
