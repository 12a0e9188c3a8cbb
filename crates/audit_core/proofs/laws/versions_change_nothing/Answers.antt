use Rattle.audit_core.proofs.Versions.{ties_same, one_report, one_report_in_all, one_graph_in_all, some_migrated}
use Rattle.audit_core.proofs.laws.versions_change_nothing.Goals as goal

pub returns-clause-ties : goal.returns-clause-ties
returns-clause-ties c = ties_same

pub returns-clause-reports : goal.returns-clause-reports
returns-clause-reports c = one_report

pub returns-clause-same : goal.returns-clause-same
returns-clause-same c = one_report_in_all

pub returns-clause-graphs : goal.returns-clause-graphs
returns-clause-graphs c = one_graph_in_all

pub returns-clause-chosen : goal.returns-clause-chosen
returns-clause-chosen c = some_migrated
