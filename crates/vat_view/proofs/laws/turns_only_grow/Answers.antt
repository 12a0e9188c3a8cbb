use Rattle.vat_view.proofs.Turning.{turned_on, stopped_on, leads_on, by_turns_on}
use Rattle.vat_view.proofs.laws.turns_only_grow.Goals as goal

pub returns-clause-turned : goal.returns-clause-turned
returns-clause-turned c = λ later past once a b. turned_on later past a b once

pub returns-clause-stopped : goal.returns-clause-stopped
returns-clause-stopped c = λ later past once a. stopped_on later past a once

pub returns-clause-leads : goal.returns-clause-leads
returns-clause-leads c = λ later past once a b. leads_on later past a b once

pub returns-clause-by_turns : goal.returns-clause-by_turns
returns-clause-by_turns c = λ later past once a b. by_turns_on later past a b once
