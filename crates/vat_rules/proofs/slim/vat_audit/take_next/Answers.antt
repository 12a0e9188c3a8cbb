use Rattle.vat_rules.specs.Audit.{reads_by}
use Rattle.vat_rules.proofs.Auditing.{good_put, good_refused}
use Rattle.vat_rules.proofs.slim.vat_audit.take_next.Goals as goal

pub returns-in-Some-clause-ok : goal.returns-in-Some-clause-ok
returns-in-Some-clause-ok c =
    let refused = rw c.in-Some.is at c.in_ok-refusal.ensures.ok in
    λ log so. good_refused c.args.edition (reads_by c.args.edition c.args.limits) log c.args.body.now c.args.good.now c.len-at.result c.in-Some.refusal c.len-at.ensures so refused

pub returns-in-None-clause-ok : goal.returns-in-None-clause-ok
returns-in-None-clause-ok c =
    let (event, put) = rw c.in-None.is at c.in_ok-refusal.ensures.ok in
    λ log so. good_put c.args.edition (reads_by c.args.edition c.args.limits) log c.args.body.now c.args.good.now c.put_next.new.good event so put
