use Rattle.std.proofs.Common.{◌≡◌, take}
use Rattle.call_trace.specs.Said.{caps_at_paths}
use Rattle.call_trace.proofs.records.saying.caps_at_paths.Given as goal

abbrev pub invariant-loop-path : goal.invariant-loop-path
invariant-loop-path l = l.results.items ≡ caps_at_paths l.caps (take l.path-index l.fields)
