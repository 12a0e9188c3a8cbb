use Rattle.audit_core.proofs.Naming.{may_be_named}
use Rattle.audit_core.proofs.laws.good_findings_name_a_run.Goals as goal

pub returns : goal.returns
returns c = may_be_named
