use Rattle.vat_rules.specs.Audit.{reads_by}
use Rattle.vat_rules.proofs.Unread.{read_is}
use Rattle.vat_rules.proofs.slim.vat_audit.put_read.Goals as goal

pub returns-in-Err-clause-ok : goal.returns-in-Err-clause-ok
returns-in-Err-clause-ok c = c.in_ok-unread-in-Err.ensures c.args.edition c.args.limits c.args.good.now c.args.body.now (rw c.in-Err.is at c.read-read.ensures)

pub returns-clause-ok : goal.returns-clause-ok
returns-clause-ok c = c.put_event.ensures.ok (reads_by c.args.edition c.args.limits) c.args.body.now
    (read_is c.args.edition c.args.limits c.args.body.now c.in-Ok.event (rw c.in-Ok.is at c.read-read.ensures))
