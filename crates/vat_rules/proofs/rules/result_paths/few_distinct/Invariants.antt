use Rattle.std.proofs.Common.{◌≡◌, drop}
use Rattle.vat_rules.specs.OfCalls.{distinct_paths}
use Rattle.vat_rules.proofs.rules.result_paths.few_distinct.Given as goal

abbrev pub invariant-loop-index : goal.invariant-loop-index
invariant-loop-index l = distinct_paths l.results ≡ distinct_paths (drop l.index l.results)
