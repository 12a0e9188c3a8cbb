use Rattle.vat_view.proofs.Turned.{answers_kept}
use Rattle.vat_view.proofs.lookups.turning.answered.Goals as goal

pub returns-in_ok-new-in_default : goal.returns-in_ok-new-in_default
returns-in_ok-new-in_default c =
    answers_kept c.args.results.now c.in_ok-answered_fields-in_default.field-0.items c.in_ok-new-in_default.field-0 c.in_ok-answered_fields-in_default.ensures c.in_ok-new-in_default.ensures
