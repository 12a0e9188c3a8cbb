use Rattle.std.proofs.Common.{◌+◌}
use Rattle.log_ends.specs.Glue.{HasNoAlike}
use Rattle.log_ends.proofs.likeness.next_alike.Given as goal

abbrev pub invariant-loop-other : goal.invariant-loop-other
invariant-loop-other l = HasNoAlike l.rows l.place (l.place + 1) l.other
