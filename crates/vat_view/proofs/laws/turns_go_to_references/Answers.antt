use Rattle.vat_view.proofs.Landed.{turned_to_reference}
use Rattle.vat_view.proofs.laws.turns_go_to_references.Goals as goal

pub returns : goal.returns
returns c = turned_to_reference
