use Rattle.run_model.proofs.Reordering.{one_fault, one_graph}
use Rattle.run_model.proofs.laws.a_run_has_one_fault.Goals as goal

pub returns-clause-fault : goal.returns-clause-fault
returns-clause-fault c = one_fault

pub returns-clause-edges : goal.returns-clause-edges
returns-clause-edges c = one_graph
