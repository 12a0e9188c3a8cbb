use Rattle.run_model.proofs.Places.{at_one_vat, at_no_vat, delivered_once}
use Rattle.run_model.proofs.Alone.{at_rest, undelivered_here, undelivered_there, unsettled_here, unsettled_there}
use Rattle.run_model.proofs.laws.a_call_has_one_place.Goals as goal

pub returns-clause-at_one : goal.returns-clause-at_one
returns-clause-at_one c = at_one_vat

pub returns-clause-at_rest : goal.returns-clause-at_rest
returns-clause-at_rest c = at_rest

pub returns-clause-received : goal.returns-clause-received
returns-clause-received c = at_no_vat

pub returns-clause-undelivered_here : goal.returns-clause-undelivered_here
returns-clause-undelivered_here c = undelivered_here

pub returns-clause-undelivered_there : goal.returns-clause-undelivered_there
returns-clause-undelivered_there c = undelivered_there

pub returns-clause-unsettled_here : goal.returns-clause-unsettled_here
returns-clause-unsettled_here c = unsettled_here

pub returns-clause-unsettled_there : goal.returns-clause-unsettled_there
returns-clause-unsettled_there c = unsettled_there

pub returns-clause-delivered : goal.returns-clause-delivered
returns-clause-delivered c = delivered_once
