use Rattle.std.proofs.Common.{subst, ◌∙◌}
use Rattle.vat_view.specs.Glue.Kept.{AreKept}
use Rattle.vat_view.proofs.Answering.{if_ok, begun_next, each_known}
use Rattle.vat_view.proofs.state.VatState.view_of_descriptor.Goals as goal

pub returns : goal.returns
returns c =
    if_ok c.view_by.result (λ v same. same ∙ each_known c.args.self.now c.self.inside.tables.questions c.self.inside.tables.lives c.self.inside.tables.bound c.self.inside.tables.calls
    (subst (λ p. AreKept p c.self.inside.tables.questions c.self.inside.tables.lives c.self.inside.tables.bound c.self.inside.tables.calls) c.self.view_is c.self.invariant.0.0) c.args.event.now c.in_ok-begun.begun
    (begun_next c.args.self.now c.self.inside.tables.questions c.self.inside.tables.lives c.self.inside.tables.bound c.self.inside.tables.calls
    (subst (λ p. AreKept p c.self.inside.tables.questions c.self.inside.tables.lives c.self.inside.tables.bound c.self.inside.tables.calls) c.self.view_is c.self.invariant.0.0) c.args.event.now c.in_ok-begun.begun c.is_late-late.result c.self.inside.count c.self.inside.past.items
    c.is_late-late.ensures c.self.invariant.3 c.self.view_is c.in_ok-begun.ensures) c.args.descriptor.now) c.view_by.ensures
