use Rattle.log_ends.specs.Glue.{HasNoneFree}
use Rattle.log_ends.proofs.joining.partner.Given as goal

abbrev pub invariant-loop-other : goal.invariant-loop-other
invariant-loop-other l = HasNoneFree l.rows l.taken l.place l.other
