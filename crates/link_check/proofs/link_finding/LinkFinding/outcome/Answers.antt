use Rattle.std.proofs.Common.{sym, subst}
use Rattle.link_check.specs.Prefix.{Ends, IsOutcome}
use Rattle.link_check.proofs.Faults.{one_outcome}
use Rattle.link_check.proofs.link_finding.LinkFinding.outcome.Goals as goal

pub returns-clause-meaning : goal.returns-clause-meaning
returns-clause-meaning c = subst (λ (link : Ends). IsOutcome link c.self.inside.outcome) c.self.view_is c.self.invariant.means

pub returns-clause-only : goal.returns-clause-only
returns-clause-only c = λ other is. one_outcome _ other c.self.inside.outcome (subst (λ (link : Ends). IsOutcome link other) (sym c.self.view_is) is) c.self.invariant.means
