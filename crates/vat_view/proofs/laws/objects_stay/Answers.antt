use Rattle.vat_view.proofs.Turning.{object_stays}
use Rattle.vat_view.proofs.laws.objects_stay.Goals as goal

pub returns : goal.returns
returns c = object_stays
