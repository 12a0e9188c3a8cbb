use Rattle.std.proofs.Common.{sym, ◌∙◌}
use denote.Param.Send.{sendable}
use Rattle.audit_core.proofs.Refusing.{is_refusal, ties_up}
use Rattle.audit_core.proofs.with_findings.audit_with_findings.Goals as goal

pub returns-in-Some-clause-err : goal.returns-in-Some-clause-err
returns-in-Some-clause-err g c = is_refusal c.args.case c.args.workers c.in-Some.error c.in-Some.ensures

pub find_all-requires : goal.find_all-requires
find_all-requires g c = (search sendable parts 8, (search sendable parts 8, ties_up c.args.case c.args.workers (sym c.refused.ensures ∙ c.in_default.is)))
