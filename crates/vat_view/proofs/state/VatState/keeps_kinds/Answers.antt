use Rattle.std.proofs.Common.{subst}
use Rattle.vat_view.specs.Glue.KindTables.{AreResolved}
use Rattle.vat_view.specs.Glue.Kept.{AreKept}
use Rattle.vat_view.proofs.Answering.{begun_next}
use Rattle.vat_view.proofs.Alike.{keeps_decided}
use Rattle.vat_view.proofs.state.VatState.keeps_kinds.Goals as goal

pub returns : goal.returns
returns c =
    let kept = subst (λ p. AreKept p c.self.inside.tables.questions c.self.inside.tables.lives c.self.inside.tables.bound c.self.inside.tables.calls) c.self.view_is c.self.invariant.0.0 in
    keeps_decided c.args.self.now c.args.event.now c.self.inside.tables.questions c.self.inside.tables.lives c.self.inside.tables.bound c.self.inside.tables.calls kept
    c.self.inside.tables.resolves (subst (λ p. AreResolved p c.self.inside.tables.resolves) c.self.view_is c.self.invariant.0.1) c.in_ok-begun.begun
    (begun_next c.args.self.now c.self.inside.tables.questions c.self.inside.tables.lives c.self.inside.tables.bound c.self.inside.tables.calls kept c.args.event.now c.in_ok-begun.begun c.is_late-late.result c.self.inside.count
    c.self.inside.past.items c.is_late-late.ensures c.self.invariant.3 c.self.view_is c.in_ok-begun.ensures)
    c.keeps_kinds.result c.keeps_kinds.ensures
