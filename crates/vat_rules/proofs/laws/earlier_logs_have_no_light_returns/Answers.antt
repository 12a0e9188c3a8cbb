use Rattle.vat_rules.proofs.Editions.{never_light}
use Rattle.vat_rules.proofs.laws.earlier_logs_have_no_light_returns.Goals as goal

pub returns : goal.returns
returns c = λ log limits first. never_light limits log.records
