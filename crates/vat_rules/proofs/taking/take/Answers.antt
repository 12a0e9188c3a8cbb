use Rattle.vat_rules.proofs.Judging.{good_sound}
use Rattle.vat_rules.proofs.taking.take.Goals as goal

pub apply_good-requires : goal.apply_good-requires
apply_good-requires c = good_sound c.args.edition c.args.state.now c.args.event.now (rw c.in-None.is at c.in_ok-rule.ensures)

pub returns-in_ok-facts_of-in-None : goal.returns-in_ok-facts_of-in-None
returns-in_ok-facts_of-in-None c = record {
  good = rw c.in-None.is at c.in_ok-rule.ensures;
  state = c.in_ok-apply_good-in-None.ensures.ok;
  known = c.in_ok-facts_of-in-None.ensures c.args.state.now c.in_ok-apply_good-in-None.ensures.ok c.in_ok-facts.ensures;
}

pub returns-in-Some : goal.returns-in-Some
returns-in-Some c = rw c.in-Some.is at c.in_ok-rule.ensures
