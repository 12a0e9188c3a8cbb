use Rattle.call_trace.proofs.Resulting.{return_comes, resolve_comes}
use Rattle.call_trace.proofs.laws.returns_follow_answers.Goals as goal

pub returns-clause-returned : goal.returns-clause-returned
returns-clause-returned c = return_comes

pub returns-clause-resolved : goal.returns-clause-resolved
returns-clause-resolved c = resolve_comes
