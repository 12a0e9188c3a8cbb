use Rattle.audit_core.specs.Report.{AreGoodEnds}
use Rattle.audit_core.specs.Glue.{HoldsBefore}
use Rattle.audit_core.proofs.first_bad.link_line.Given as goal

abbrev pub invariant-loop-found : goal.invariant-loop-found
invariant-loop-found l = HoldsBefore AreGoodEnds l.links l.found-index
