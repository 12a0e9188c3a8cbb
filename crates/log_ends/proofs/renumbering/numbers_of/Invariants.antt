use Rattle.log_ends.specs.Numbers.{AreNumbers}
use Rattle.log_ends.proofs.renumbering.numbers_of.Given as goal

abbrev pub invariant-loop-number : goal.invariant-loop-number
invariant-loop-number l = AreNumbers l.pairs l.place l.number l.table
