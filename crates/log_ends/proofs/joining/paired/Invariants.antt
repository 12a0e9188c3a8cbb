use Rattle.log_ends.specs.Glue.{HasPaired}
use Rattle.log_ends.proofs.joining.paired.Given as goal

abbrev pub invariant-loop-place : goal.invariant-loop-place
invariant-loop-place l = HasPaired l.rows l.place l.taken.items l.pairs.items
