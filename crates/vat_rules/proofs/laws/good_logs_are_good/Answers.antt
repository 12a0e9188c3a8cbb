use Rattle.vat_rules.proofs.Editions.{good_logs_good}
use Rattle.vat_rules.proofs.laws.good_logs_are_good.Goals as goal

pub returns : goal.returns
returns c = good_logs_good
