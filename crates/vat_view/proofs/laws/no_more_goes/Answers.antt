use Rattle.vat_view.proofs.Counting.{no_more_went}
use Rattle.vat_view.proofs.laws.no_more_goes.Goals as goal

pub returns : goal.returns
returns c = no_more_went
