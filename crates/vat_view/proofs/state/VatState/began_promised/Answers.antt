use Rattle.std.proofs.Common.{subst, ◌∙◌, ap, option_map}
use Rattle.vat_view.specs.Glue.Kept.{AreKept}
use Rattle.vat_view.proofs.Promising.{promised_known}
use Rattle.vat_view.proofs.state.VatState.began_promised.Goals as goal

pub returns-in-Some : goal.returns-in-Some
returns-in-Some c =
    let kept = subst (λ p. AreKept p c.self.inside.tables.questions c.self.inside.tables.lives c.self.inside.tables.bound c.self.inside.tables.calls) c.self.view_is c.self.invariant.0.0 in
    ap (λ o. option_map (λ origin. origin.promised) o) c.in-Some.ensures
    ∙ promised_known c.args.self.now c.self.inside.tables.questions c.self.inside.tables.lives kept.tabled.tabled c.args.number
