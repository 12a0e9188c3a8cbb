use Rattle.std.specs.Prelude.{reverse}
use Rattle.vat_rules.specs.Audit.{edition_of_version, reads_by}
use Rattle.vat_rules.proofs.slim.vat_audit.VatAudit.finish.Goals as goal

pub new-requires-clause-outcome : goal.new-requires-clause-outcome
new-requires-clause-outcome c =
    let edition = edition_of_version c.self.inside.header.version in
    c.outcome_of.ensures edition (reads_by edition c.self.inside.limits) (reverse c.self.inside.taken.items) c.self.invariant.1
