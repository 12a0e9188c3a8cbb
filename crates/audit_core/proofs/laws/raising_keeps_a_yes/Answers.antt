use Rattle.audit_core.proofs.Raising.{raised_ties, raised_yes, raised_same, raised_graph}
use Rattle.audit_core.proofs.laws.raising_keeps_a_yes.Goals as goal

pub returns-clause-ties : goal.returns-clause-ties
returns-clause-ties c = raised_ties

pub returns-clause-reports : goal.returns-clause-reports
returns-clause-reports c = raised_yes

pub returns-clause-same : goal.returns-clause-same
returns-clause-same c = raised_same

pub returns-clause-graphs : goal.returns-clause-graphs
returns-clause-graphs c = raised_graph
