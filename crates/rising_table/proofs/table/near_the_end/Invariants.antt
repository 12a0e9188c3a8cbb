use Rattle.std.proofs.Common.{ℕ, ◌+◌, ◌<◌, length}
use Rattle.rising_table.specs.Glue.{key_at}
use Rattle.rising_table.proofs.table.near_the_end.Given as goal

-- all entries behind have greater numbers
abbrev pub invariant-loop-back : goal.invariant-loop-back
invariant-loop-back g l = (j : ℕ) → length l.row < j + l.back → j < length l.row → l.key < key_at l.row j
