use Rattle.std.proofs.Common.{refl, sym}
use Rattle.vat_view.proofs.Owning.{own_uses_numbers}
use Rattle.vat_view.proofs.state.VatState.uses_numbers.Goals as goal

pub returns-then-not-has_message : goal.returns-then-not-has_message
returns-then-not-has_message c = (
  (λ so. own_uses_numbers c.args.self.now c.args.event.now (sym c.if-not-has_message.ensures)),
  (λ uses. refl),
)
