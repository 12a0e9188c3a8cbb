use Rattle.call_trace.proofs.Points.{taken_linked, taken_agree, taken_balanced}
use Rattle.call_trace.proofs.laws.ends_of_findings_agree.Goals as goal

pub returns-clause-linked : goal.returns-clause-linked
returns-clause-linked c = taken_linked

pub returns-clause-agree : goal.returns-clause-agree
returns-clause-agree c = taken_agree

pub returns-clause-balanced : goal.returns-clause-balanced
returns-clause-balanced c = taken_balanced
