use Rattle.call_trace.proofs.Single.{run_taken, one_run}
use Rattle.call_trace.proofs.laws.findings_have_one_run.Goals as goal

pub returns-clause-row : goal.returns-clause-row
returns-clause-row c = run_taken

pub returns-clause-one : goal.returns-clause-one
returns-clause-one c = one_run
