use Rattle.vat_rules.proofs.slim.vat_audit.put_event.Goals as goal

pub returns-in-Some-clause-ok : goal.returns-in-Some-clause-ok
returns-in-Some-clause-ok c = λ read body is. (c.args.event.now, is, rw c.in-Some.is at c.in_ok-rule.ensures.ok)

pub returns-in-None-clause-ok : goal.returns-in-None-clause-ok
returns-in-None-clause-ok c =
    let (good, put) = rw c.in-None.is at c.in_ok-rule.ensures.ok in
    λ read body is. (c.args.event.now, record { is = is; good = good; state = put })
