use Rattle.vat_view.proofs.Lasting.{number_keeps}
use Rattle.vat_view.proofs.laws.numbers_keep_views.Goals as goal

pub returns : goal.returns
returns c = number_keeps
