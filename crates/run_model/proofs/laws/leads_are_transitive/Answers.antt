use Rattle.run_model.proofs.Growing.{leads_through, by_turns_first, by_turns_then}
use Rattle.run_model.proofs.laws.leads_are_transitive.Goals as goal

pub returns-clause-leads : goal.returns-clause-leads
returns-clause-leads c = leads_through

pub returns-clause-turned_first : goal.returns-clause-turned_first
returns-clause-turned_first c = by_turns_first

pub returns-clause-turned_then : goal.returns-clause-turned_then
returns-clause-turned_then c = by_turns_then
