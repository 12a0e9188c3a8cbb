use Rattle.std.proofs.Common.{subst, sym, ◌∙◌, ap}
use Rattle.std.specs.Option.{option_copied}
use Rattle.vat_view.specs.Glue.Kept.{AreKept}
use Rattle.vat_view.specs.Glue.LoopTables.{AreWaiting}
use Rattle.vat_view.proofs.Looping.{held_decided, held_by_none}
use Rattle.vat_view.proofs.state.VatState.is_held_up.Goals as goal

pub returns-in-Some : goal.returns-in-Some
returns-in-Some c =
    held_decided c.args.self.now c.self.inside.tables.questions c.self.inside.tables.lives c.self.inside.tables.bound c.self.inside.tables.calls
    (subst (λ p. AreKept p c.self.inside.tables.questions c.self.inside.tables.lives c.self.inside.tables.bound c.self.inside.tables.calls) c.self.view_is c.self.invariant.0.0)
    c.self.inside.tables.waits (subst (λ p. AreWaiting p c.self.inside.tables.waits) c.self.view_is c.self.invariant.1) c.args.number
    c.in-Some.looped.now (sym c.of.ensures ∙ ap (λ o. option_copied o) c.in-Some.is) c.holds_up.result c.holds_up.ensures

pub returns-in-None : goal.returns-in-None
returns-in-None c =
    held_by_none c.args.self.now c.self.inside.tables.questions c.self.inside.tables.lives c.self.inside.tables.bound c.self.inside.tables.calls
    (subst (λ p. AreKept p c.self.inside.tables.questions c.self.inside.tables.lives c.self.inside.tables.bound c.self.inside.tables.calls) c.self.view_is c.self.invariant.0.0)
    c.self.inside.tables.waits (subst (λ p. AreWaiting p c.self.inside.tables.waits) c.self.view_is c.self.invariant.1) c.args.number
    (sym c.of.ensures ∙ ap (λ o. option_copied o) c.in-None.is)
