use Rattle.audit_core.proofs.OneReport.{same_report, one_run_by}
use Rattle.audit_core.proofs.laws.a_case_has_one_report.Goals as goal

pub returns-clause-same : goal.returns-clause-same
returns-clause-same c = same_report

pub returns-clause-runs : goal.returns-clause-runs
returns-clause-runs c = one_run_by
