use Rattle.std.proofs.Common.{refl, sym, subst}
use Rattle.vat_view.specs.Glue.Kept.{AreKept}
use Rattle.vat_view.proofs.Answering.{if_ok, gives_decided}
use Rattle.vat_view.proofs.Owning.{own_gives_back_held}
use Rattle.vat_view.proofs.state.VatState.gives_back_held.Goals as goal

pub returns : goal.returns
returns c = if_ok c.gives_back_held.result (λ held decides. gives_decided c.args.self.now c.self.inside.tables.questions c.self.inside.tables.lives c.self.inside.tables.bound c.self.inside.tables.calls
    (subst (λ p. AreKept p c.self.inside.tables.questions c.self.inside.tables.lives c.self.inside.tables.bound c.self.inside.tables.calls) c.self.view_is c.self.invariant.0.0) c.args.event.now held decides) c.gives_back_held.ensures

pub returns-then-not-has_message : goal.returns-then-not-has_message
returns-then-not-has_message c = (
  (λ so. own_gives_back_held c.args.self.now c.args.event.now (sym c.if-not-has_message.ensures)),
  (λ gives. refl),
)
