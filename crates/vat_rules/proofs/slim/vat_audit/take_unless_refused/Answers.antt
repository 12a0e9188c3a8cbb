use Rattle.vat_rules.specs.Audit.{reads_by}
use Rattle.vat_rules.proofs.Auditing.{still_refused}
use Rattle.vat_rules.proofs.slim.vat_audit.take_unless_refused.Goals as goal

pub returns-in-Some-clause-ok : goal.returns-in-Some-clause-ok
returns-in-Some-clause-ok c =
    λ log so. still_refused c.args.edition (reads_by c.args.edition c.args.limits) log c.args.body.now c.args.good.now c.in-Some.first (rw c.in-Some.is at so)
