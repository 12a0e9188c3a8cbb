use Rattle.std.proofs.Common.{◌≡◌, take}
use Rattle.run_model.proofs.caps.Caps.copy.Given as goal

abbrev pub invariant-loop-cap : goal.invariant-loop-cap
invariant-loop-cap l = l.caps.items ≡ take l.cap-index l.cap-items
