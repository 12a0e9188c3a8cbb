use Rattle.vat_rules.proofs.Noted.{noted_views}
use Rattle.vat_rules.proofs.facts.lookup.views_of_references.Goals as goal

pub returns-in-Wire : goal.returns-in-Wire
returns-in-Wire c = noted_views c.args.state.now c.args.event.now c.in-Wire.is c.views_of-in-Wire.result (rw c.as_slice-in-Wire.ensures at c.views_of-in-Wire.ensures)
