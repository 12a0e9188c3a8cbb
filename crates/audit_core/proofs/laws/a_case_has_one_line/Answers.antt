use Rattle.audit_core.proofs.OneLine.{one_line}
use Rattle.audit_core.proofs.laws.a_case_has_one_line.Goals as goal

pub returns : goal.returns
returns c = one_line
