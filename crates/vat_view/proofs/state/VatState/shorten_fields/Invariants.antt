use Rattle.std.proofs.Common.{◌≡◌}
use Rattle.vat_view.proofs.state.VatState.shorten_fields.Given as goal

abbrev pub invariant-loop-path : goal.invariant-loop-path
invariant-loop-path l = l.self ≡ l.initial.self
