use Rattle.audit_core.proofs.OneLine.{one_graph}
use Rattle.audit_core.proofs.laws.a_case_has_one_graph.Goals as goal

pub returns : goal.returns
returns c = one_graph
