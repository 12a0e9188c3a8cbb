use Rattle.vat_view.proofs.Turning.{leads_on}
use Rattle.vat_rules.proofs.Once.{turns_once, each_turns_once}
use Rattle.vat_rules.proofs.laws.good_records_turn_once.Goals as goal

pub returns-clause-next : goal.returns-clause-next
returns-clause-next c = turns_once

pub returns-clause-all : goal.returns-clause-all
returns-clause-all c = each_turns_once

pub returns-clause-leads : goal.returns-clause-leads
returns-clause-leads c = λ later past good a b. leads_on later past a b (each_turns_once later past good)
