use Rattle.vat_rules.proofs.Judging.{good_sound}
use Rattle.vat_rules.proofs.taking.apply_if_good.Goals as goal

pub apply_good-requires : goal.apply_good-requires
apply_good-requires c = good_sound c.args.edition c.args.state.now c.args.event.now (c.in_ok-good.ensures c.if-good.true)
