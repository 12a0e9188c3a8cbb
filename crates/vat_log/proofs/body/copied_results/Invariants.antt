use Rattle.std.proofs.Common.{◌≡◌, take}
use Rattle.vat_log.proofs.body.copied_results.Given as goal

abbrev pub invariant-loop-reference : goal.invariant-loop-reference
invariant-loop-reference l = l.copied.items ≡ take l.reference-index l.reference-items
