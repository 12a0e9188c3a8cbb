use Rattle.std.proofs.Common.{subst, ◌∙◌}
use Rattle.vat_view.specs.Glue.Kept.{AreKept}
use Rattle.vat_view.proofs.Answering.{if_ok, targeted_known}
use Rattle.vat_view.proofs.state.VatState.view_of_target.Goals as goal

pub returns : goal.returns
returns c = if_ok c.view_of_target.result (λ v same. same ∙ targeted_known c.args.self.now c.self.inside.tables.questions c.self.inside.tables.lives c.self.inside.tables.bound c.self.inside.tables.calls
    (subst (λ p. AreKept p c.self.inside.tables.questions c.self.inside.tables.lives c.self.inside.tables.bound c.self.inside.tables.calls) c.self.view_is c.self.invariant.0.0) c.args.event.now) c.view_of_target.ensures
