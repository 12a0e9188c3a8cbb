use Rattle.picture.proofs.Untagged.{of_reason}
use Rattle.picture.proofs.laws.reasons_make_no_tags.Goals as goal

pub returns : goal.returns
returns c = λ reason. of_reason reason
