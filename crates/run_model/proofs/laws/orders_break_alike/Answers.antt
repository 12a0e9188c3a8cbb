use Rattle.run_model.proofs.Reordering.{same_early, same_fault, same_edges}
use Rattle.run_model.proofs.laws.orders_break_alike.Goals as goal

pub returns-clause-early : goal.returns-clause-early
returns-clause-early c = same_early

pub returns-clause-fault : goal.returns-clause-fault
returns-clause-fault c = same_fault

pub returns-clause-edges : goal.returns-clause-edges
returns-clause-edges c = same_edges
