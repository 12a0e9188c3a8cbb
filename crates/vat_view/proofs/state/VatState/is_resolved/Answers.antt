use Rattle.std.proofs.Common.{subst, ◌∙◌, ap₂}
use Rattle.vat_view.specs.Glue.Kept.{AreKept}
use Rattle.vat_view.specs.Glue.KindTables.{AreResolved, resolved_since}
use Rattle.vat_view.proofs.Promising.{resolved_known}
use Rattle.vat_view.proofs.state.VatState.is_resolved.Goals as goal

pub returns : goal.returns
returns c =
    let kept = subst (λ p. AreKept p c.self.inside.tables.questions c.self.inside.tables.lives c.self.inside.tables.bound c.self.inside.tables.calls) c.self.view_is c.self.invariant.0.0 in
    c.resolved_since.ensures ∙ ap₂ (λ o n. resolved_since o n) c.origin_of.ensures c.of.ensures
    ∙ resolved_known c.args.self.now c.self.inside.tables.questions c.self.inside.tables.lives c.self.inside.tables.resolves kept.tabled.tabled
    (subst (λ p. AreResolved p c.self.inside.tables.resolves) c.self.view_is c.self.invariant.0.1) c.args.number
