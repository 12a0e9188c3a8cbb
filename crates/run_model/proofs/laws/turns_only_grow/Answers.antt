use Rattle.run_model.proofs.Growing.{turns_grow, leads_grow, leads_by_turns_grow}
use Rattle.run_model.proofs.laws.turns_only_grow.Goals as goal

pub returns-clause-turned : goal.returns-clause-turned
returns-clause-turned c = turns_grow

pub returns-clause-leads : goal.returns-clause-leads
returns-clause-leads c = leads_grow

pub returns-clause-by_turns : goal.returns-clause-by_turns
returns-clause-by_turns c = leads_by_turns_grow
