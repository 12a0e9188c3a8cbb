use Rattle.vat_view.proofs.Joining.{led_one, led_became}
use Rattle.vat_view.proofs.laws.leads_are_one.Goals as goal

pub returns-clause-leads : goal.returns-clause-leads
returns-clause-leads c = led_one

pub returns-clause-by_turns : goal.returns-clause-by_turns
returns-clause-by_turns c = led_became
