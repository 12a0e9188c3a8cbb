use Rattle.std.proofs.Common.{subst, ◌∙◌}
use Rattle.vat_view.specs.Glue.LoopTables.{AreWaiting}
use Rattle.vat_view.proofs.Looping.{has_known}
use Rattle.vat_view.proofs.state.VatState.awaits_echo.Goals as goal

pub returns : goal.returns
returns c = c.has.ensures ∙ has_known c.args.self.now c.self.inside.tables.waits (subst (λ p. AreWaiting p c.self.inside.tables.waits) c.self.view_is c.self.invariant.1) c.args.number
