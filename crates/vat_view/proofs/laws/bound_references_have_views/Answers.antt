use Rattle.vat_view.proofs.Viewed.{all_viewed, is_there}
use Rattle.vat_view.proofs.laws.bound_references_have_views.Goals as goal

pub returns : goal.returns
returns c = λ past all r bound. is_there _ (all_viewed past all r bound)
