use Rattle.vat_rules.proofs.Editions.{keeps_more}
use Rattle.vat_rules.proofs.laws.later_edition_keeps_more.Goals as goal

pub returns : goal.returns
returns c = keeps_more
