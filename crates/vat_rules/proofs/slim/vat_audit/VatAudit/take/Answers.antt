use Rattle.std.specs.Prelude.{reverse}
use Rattle.vat_rules.specs.Audit.{edition_of_version}
use Rattle.vat_rules.proofs.Auditing.{counted_more, take_by}
use Rattle.vat_rules.proofs.slim.vat_audit.VatAudit.take.Goals as goal

pub invariant_of-self-2 : goal.invariant_of-self-2
invariant_of-self-2 c =
    let taken = c.self.inside.taken.items in (
      counted_more c.self.inside.count c.in-Some.count taken c.with-self-inside.result.items c.args.body.now c.self.invariant.0 c.in-Some.ensures.1 c.with-self-inside.ensures,
      take_by (edition_of_version c.self.inside.header.version) c.edition_of_header.result c.self.inside.limits taken c.with-self-inside.result.items c.args.body.now c.self.inside.good
          c.take_unless_refused.new.good c.self.inside.refused _ c.edition_of_header.ensures c.with-self-inside.ensures (c.in_ok-refused.ensures.ok (reverse taken)) c.self.invariant.1,
    )
