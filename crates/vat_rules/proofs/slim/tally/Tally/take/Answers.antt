use Rattle.std.proofs.Common.{subst}
use Rattle.vat_rules.specs.Rules.{rules}
use Rattle.vat_rules.specs.Judged.{BreaksFirst}
use Rattle.decoded_records.specs.Past.{Past}
use Rattle.vat_rules.proofs.slim.tally.Tally.take.Goals as goal

pub returns-in-Some-2-clause-ok : goal.returns-in-Some-2-clause-ok
returns-in-Some-2-clause-ok c =
    let refused = rw c.in-Some-2.is at c.in_ok-rule.ensures.ok in
    subst (λ (past : Past). BreaksFirst c.args.edition rules past c.args.event.now c.in-Some-2.rule) c.self.view_is refused.0
