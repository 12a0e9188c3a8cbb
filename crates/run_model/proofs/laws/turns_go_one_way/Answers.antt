use Rattle.run_model.proofs.Turning.{turns_one_way, leads_to_one_object}
use Rattle.run_model.proofs.laws.turns_go_one_way.Goals as goal

pub returns-clause-turned : goal.returns-clause-turned
returns-clause-turned c = turns_one_way

pub returns-clause-object : goal.returns-clause-object
returns-clause-object c = leads_to_one_object
