use Rattle.run_model.proofs.Sending.{received_leads, received_answered, resolved_leads, received_taken, fields_turn}
use Rattle.run_model.proofs.laws.what_is_received_is_led_to.Goals as goal

pub returns-clause-results : goal.returns-clause-results
returns-clause-results c = received_leads

pub returns-clause-answered : goal.returns-clause-answered
returns-clause-answered c = received_answered

pub returns-clause-resolved : goal.returns-clause-resolved
returns-clause-resolved c = resolved_leads

pub returns-clause-taken : goal.returns-clause-taken
returns-clause-taken c = received_taken

pub returns-clause-fields : goal.returns-clause-fields
returns-clause-fields c = fields_turn
