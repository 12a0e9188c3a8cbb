use Rattle.std.proofs.Common.{subst, ◌∙◌}
use Rattle.vat_view.specs.Glue.Kept.{AreKept}
use Rattle.vat_view.proofs.Answering.{if_ok}
use Rattle.vat_view.proofs.Called.{goal_known}
use Rattle.vat_view.proofs.state.VatState.goal_of.Goals as goal

pub returns : goal.returns
returns c = if_ok c.goal_of.result (λ a same. same ∙ goal_known c.args.self.now c.self.inside.tables.questions c.self.inside.tables.lives c.self.inside.tables.bound c.self.inside.tables.calls
    (subst (λ p. AreKept p c.self.inside.tables.questions c.self.inside.tables.lives c.self.inside.tables.bound c.self.inside.tables.calls) c.self.view_is c.self.invariant.0.0) c.args.call c.requires) c.goal_of.ensures
