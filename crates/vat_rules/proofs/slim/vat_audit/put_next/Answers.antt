use Rattle.std.proofs.Common.{refl, sym, ap}
use Rattle.std.specs.Prelude.{ℕ, List, Ok}
use Rattle.vat_rules.specs.Types.{Field}
use Rattle.vat_rules.specs.Audit.{reads_by}
use Rattle.vat_rules.proofs.slim.vat_audit.put_next.Goals as goal

pub returns-in-Host-clause-ok : goal.returns-in-Host-clause-ok
returns-in-Host-clause-ok c = c.put_event.ensures.ok (reads_by c.args.edition c.args.limits) c.args.body.now (rw c.in-Host.is refl)

pub returns-in-Make-clause-ok : goal.returns-in-Make-clause-ok
returns-in-Make-clause-ok c = c.put_event-in-Make.ensures.ok (reads_by c.args.edition c.args.limits) c.args.body.now (rw c.in-Make.is refl)

pub returns-in_ok-copy-in-Field-clause-ok : goal.returns-in_ok-copy-in-Field-clause-ok
returns-in_ok-copy-in-Field-clause-ok c = c.put_event-in-Field.ensures.ok (reads_by c.args.edition c.args.limits) c.args.body.now
    (rw c.in-Field.is (ap (λ (path : List ℕ). Ok (Field c.in-Field.reference c.in-Field.call path)) (sym c.in_ok-copy-in-Field.ensures)))
