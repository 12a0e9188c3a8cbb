use Rattle.std.proofs.Common.{◌≡◌}
use Rattle.vat_view.proofs.state.VatState.shorten_references.Given as goal

abbrev pub invariant-loop-reference : goal.invariant-loop-reference
invariant-loop-reference l = l.self ≡ l.initial.self
