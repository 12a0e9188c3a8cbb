use Rattle.std.proofs.Common.{refl}
use Rattle.vat_rules.proofs.Judging.{good_sound}
use Rattle.vat_rules.proofs.taking.apply_by_rules.Goals as goal

pub apply_good-requires : goal.apply_good-requires
apply_good-requires c = good_sound c.args.edition c.args.state.now c.args.event.now (rw c.in-None.is at c.in_ok-rule.ensures)

pub returns-in-Some-clause-ok : goal.returns-in-Some-clause-ok
returns-in-Some-clause-ok c = (rw c.in-Some.is at c.in_ok-rule.ensures, refl)
