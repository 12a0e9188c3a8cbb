use Rattle.audit_core.proofs.NoRun.{no_run}
use Rattle.audit_core.proofs.found_run.run_of_findings.Goals as goal

pub returns-in-Some-clause-none : goal.returns-in-Some-clause-none
returns-in-Some-clause-none c none = no_run c.args.findings.now.case c.case-case.ensures.whole.holds c.in-Some.field-0 c.in-Some.ensures
