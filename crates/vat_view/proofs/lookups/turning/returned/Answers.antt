use Rattle.vat_view.specs.Glue.TurnTables.{reference_at}
use Rattle.vat_view.proofs.Turned.{results_kept}
use Rattle.vat_view.proofs.lookups.turning.returned.Goals as goal

pub returns-in_ok-new-in_default : goal.returns-in_ok-new-in_default
returns-in_ok-new-in_default c =
    results_kept (reference_at c.args.event.now) c.args.results.now c.in_ok-returned_fields-in_default.field-0.items c.in_ok-new-in_default.field-0 c.in_ok-returned_fields-in_default.ensures
    c.in_ok-new-in_default.ensures
