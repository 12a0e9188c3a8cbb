use Rattle.std.proofs.Common.{◌∙◌, ap, subst, false}
use Rattle.std.specs.Option.{option_map_or}
use Rattle.vat_view.specs.Glue.ArrivalTables.{AreArrived}
use Rattle.vat_view.proofs.state.VatState.came_hosted.Goals as goal

pub returns : goal.returns
returns c =
    c.is_hosted.ensures
    ∙ ap (λ o. option_map_or (λ a. a.hosted) o false) ((subst (λ p. AreArrived p c.self.inside.tables.arrivals) c.self.view_is c.self.invariant.2).imports c.args.number c.args.place)
