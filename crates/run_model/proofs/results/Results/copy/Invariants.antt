use Rattle.std.proofs.Common.{◌≡◌, take}
use Rattle.run_model.proofs.results.Results.copy.Given as goal

abbrev pub invariant-loop-path : goal.invariant-loop-path
invariant-loop-path l = l.results.items ≡ take l.path-index l.path-items
