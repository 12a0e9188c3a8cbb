use Rattle.std.proofs.Common.{[], ◌∷◌, ◌++◌, ◌∙◌, ap}
use Rattle.vat_rules.proofs.Unread.{read_is}
use Rattle.vat_rules.proofs.audit.gather.Goals as goal

pub returns-in_ok-push-in-Ok-2 : goal.returns-in_ok-push-in-Ok-2
returns-in_ok-push-in-Ok-2 c =
    let taken = rw c.in-Ok-2.is at c.in_ok-facts.ensures in (
      c.in-Ok.event,
      record { is = read_is c.args.edition c.args.limits c.args.body.now c.in-Ok.event c.in-Ok.ensures; good = taken.good; state = taken.state },
      c.in_ok-push-in-Ok-2.ensures.ok ∙ ap (λ facts. c.args.gathered.now ++ record { event = c.in-Ok.event; facts = facts } ∷ []) taken.known,
    )

pub returns-in-Err-2 : goal.returns-in-Err-2
returns-in-Err-2 c = (c.in-Ok.event, read_is c.args.edition c.args.limits c.args.body.now c.in-Ok.event c.in-Ok.ensures, rw c.in-Err-2.is at c.in_ok-facts.ensures)
