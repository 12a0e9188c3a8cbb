use Rattle.run_model.proofs.Arriving.{booted_new, booted_unsettled, arrives_once, arrives_at_one}
use Rattle.run_model.proofs.laws.a_call_arrives_once.Goals as goal

pub returns-clause-booted : goal.returns-clause-booted
returns-clause-booted c = booted_new

pub returns-clause-unsettled : goal.returns-clause-unsettled
returns-clause-unsettled c = booted_unsettled

pub returns-clause-once : goal.returns-clause-once
returns-clause-once c = arrives_once

pub returns-clause-at_one : goal.returns-clause-at_one
returns-clause-at_one c = arrives_at_one
