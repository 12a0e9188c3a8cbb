use Rattle.std.proofs.Common.{subst, ◌∙◌}
use Rattle.vat_view.specs.Glue.Kept.{AreKept}
use Rattle.vat_view.proofs.Answering.{finished_known}
use Rattle.vat_view.proofs.state.VatState.is_finished.Goals as goal

pub returns : goal.returns
returns c = c.is_finished.ensures ∙ finished_known c.args.self.now c.self.inside.tables.questions c.self.inside.tables.lives c.self.inside.tables.bound c.self.inside.tables.calls
    (subst (λ p. AreKept p c.self.inside.tables.questions c.self.inside.tables.lives c.self.inside.tables.bound c.self.inside.tables.calls) c.self.view_is c.self.invariant.0.0) c.args.question
