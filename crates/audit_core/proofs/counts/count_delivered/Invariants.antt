use Rattle.std.proofs.Common.{◌≡◌, take}
use Rattle.call_trace.specs.Findings.{logs_of}
use Rattle.audit_core.specs.Report.{count_all, records_delivery}
use Rattle.audit_core.proofs.counts.count_delivered.Given as goal

abbrev pub invariant-loop-found : goal.invariant-loop-found
invariant-loop-found l = l.count ≡ count_all records_delivery (logs_of (take l.found-index l.vats))
