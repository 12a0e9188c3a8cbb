use Rattle.call_trace.proofs.Having.{reference_had, call_had}
use Rattle.call_trace.proofs.laws.what_is_bound_is_had.Goals as goal

pub returns-clause-references : goal.returns-clause-references
returns-clause-references c = reference_had

pub returns-clause-fields : goal.returns-clause-fields
returns-clause-fields c = call_had
