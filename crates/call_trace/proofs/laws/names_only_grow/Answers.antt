use Rattle.call_trace.proofs.Naming.{call_keeps, cap_keeps}
use Rattle.call_trace.proofs.laws.names_only_grow.Goals as goal

pub returns-clause-calls : goal.returns-clause-calls
returns-clause-calls c = call_keeps

pub returns-clause-caps : goal.returns-clause-caps
returns-clause-caps c = cap_keeps
