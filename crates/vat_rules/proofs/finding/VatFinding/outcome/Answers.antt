use Rattle.std.proofs.Common.{sym, subst}
use Rattle.std.specs.Arc.{arc_value}
use Rattle.vat_rules.specs.Audit.{Found, reads_by, edition_of, IsTrueOf}
use Rattle.vat_rules.proofs.Unique.{one_outcome}
use Rattle.vat_rules.proofs.finding.VatFinding.outcome.Goals as goal

pub returns-clause-only : goal.returns-clause-only
returns-clause-only c =
    let edition = edition_of (arc_value c.self.inside.log) in
    λ other is. one_outcome edition (reads_by edition c.self.inside.limits) (arc_value c.self.inside.log).records other c.self.inside.outcome
    (subst (λ (f : Found). IsTrueOf f.log f.limits other) (sym c.self.view_is) is) c.self.invariant
