use Rattle.std.proofs.Common.{subst, ◌∙◌}
use Rattle.vat_view.specs.Glue.ConnectionTables.{AreConnected}
use Rattle.vat_view.proofs.state.VatState.is_aborted.Goals as goal

pub returns : goal.returns
returns c = c.is_aborted.ensures ∙ (subst (λ p. AreConnected p c.self.inside.tables.connections) c.self.view_is c.self.invariant.0.3).aborted c.args.connection
