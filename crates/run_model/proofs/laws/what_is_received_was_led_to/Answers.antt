use Rattle.run_model.proofs.Led.{results_led, promise_led, taken_led, passed_hands}
use Rattle.run_model.proofs.laws.what_is_received_was_led_to.Goals as goal

pub returns-clause-results : goal.returns-clause-results
returns-clause-results c = results_led

pub returns-clause-resolved : goal.returns-clause-resolved
returns-clause-resolved c = promise_led

pub returns-clause-taken : goal.returns-clause-taken
returns-clause-taken c = taken_led

pub returns-clause-passed_back : goal.returns-clause-passed_back
returns-clause-passed_back c = passed_hands
