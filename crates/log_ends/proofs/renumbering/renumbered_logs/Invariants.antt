use Rattle.log_ends.specs.Numbers.{AreMade}
use Rattle.log_ends.proofs.renumbering.renumbered_logs.Given as goal

abbrev pub invariant-loop-place : goal.invariant-loop-place
invariant-loop-place l = AreMade l.logs l.pairs l.place l.made.items
