use Rattle.std.proofs.Common.{◌≡◌, sum_by, take}
use Rattle.audit_core.specs.Glue.{under_way_on}
use Rattle.audit_core.proofs.counts.count_under_way.Given as goal

abbrev pub invariant-loop-found : goal.invariant-loop-found
invariant-loop-found l = l.count ≡ sum_by under_way_on (take l.found-index l.links)
