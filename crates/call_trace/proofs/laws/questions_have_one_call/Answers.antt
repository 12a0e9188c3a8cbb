use Rattle.call_trace.proofs.Asking.{call_is_one, answer_is_one}
use Rattle.call_trace.proofs.laws.questions_have_one_call.Goals as goal

pub returns-clause-asked : goal.returns-clause-asked
returns-clause-asked c = call_is_one

pub returns-clause-answered : goal.returns-clause-answered
returns-clause-answered c = answer_is_one
