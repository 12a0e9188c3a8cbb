use Rattle.vat_view.proofs.Turning.{one_end}
use Rattle.vat_view.proofs.laws.ends_are_one.Goals as goal

pub returns : goal.returns
returns c = one_end
