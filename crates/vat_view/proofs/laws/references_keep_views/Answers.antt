use Rattle.vat_view.proofs.Lasting.{view_kept}
use Rattle.vat_view.proofs.laws.references_keep_views.Goals as goal

pub returns : goal.returns
returns c = λ later past refers r v there. view_kept later past r v refers there
