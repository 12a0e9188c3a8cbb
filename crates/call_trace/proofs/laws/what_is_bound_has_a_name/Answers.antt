use Rattle.call_trace.proofs.Naming.{calls_have_names, references_have_names, names_are_caps}
use Rattle.call_trace.proofs.laws.what_is_bound_has_a_name.Goals as goal

pub returns-clause-calls : goal.returns-clause-calls
returns-clause-calls c = calls_have_names

pub returns-clause-references : goal.returns-clause-references
returns-clause-references c = references_have_names

pub returns-clause-caps : goal.returns-clause-caps
returns-clause-caps c = names_are_caps
