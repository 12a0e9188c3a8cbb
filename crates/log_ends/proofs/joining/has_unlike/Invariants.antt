use Rattle.log_ends.specs.Glue.{HasNoUnlike}
use Rattle.log_ends.proofs.joining.has_unlike.Given as goal

abbrev pub invariant-loop-other : goal.invariant-loop-other
invariant-loop-other l = HasNoUnlike l.rows l.place l.known l.other
