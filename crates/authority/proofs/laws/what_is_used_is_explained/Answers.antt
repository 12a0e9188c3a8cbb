use Rattle.authority.proofs.Bringing.{explained}
use Rattle.authority.proofs.laws.what_is_used_is_explained.Goals as goal

pub returns : goal.returns
returns c = explained
