use Rattle.log_ends.specs.Numbers.{AreApartUpTo}
use Rattle.log_ends.proofs.renumbering.are_apart.Given as goal

abbrev pub invariant-loop-place : goal.invariant-loop-place
invariant-loop-place l = AreApartUpTo l.logs l.place
