use Rattle.std.proofs.Common.{List, subst}
use Rattle.vat_rules.specs.Audit.{Found}
use Rattle.audit_core.specs.Report.{IsGoodFinding}
use Rattle.audit_core.specs.Glue.{IsFirstNot, IsBadFinding}
use Rattle.audit_core.proofs.FirstLine.{vat_line_is, link_answer}
use Rattle.audit_core.proofs.judging.line_of.Goals as goal

pub returns-in-Some : goal.returns-in-Some
returns-in-Some c =
    vat_line_is c.args.findings.now c.vats.ensures.whole c.in-Some.line
    (subst (λ (vats : List Found). IsFirstNot IsGoodFinding (IsBadFinding c.in-Some.line) vats) c.vats.ensures.lent c.in-Some.ensures)

pub returns-in-None : goal.returns-in-None
returns-in-None c =
    link_answer c.args.findings.now c.vats.ensures.whole c.vats.result.now c.links.result.now c.link_line.result c.vats.ensures.lent c.links.ensures.lent c.in-None.ensures c.link_line.ensures
