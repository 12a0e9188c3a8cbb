use Rattle.log_ends.specs.Glue.{HasNoFit}
use Rattle.log_ends.proofs.joining.first_fit.Given as goal

abbrev pub invariant-loop-other : goal.invariant-loop-other
invariant-loop-other l = HasNoFit l.rows l.place l.other
