use Rattle.agree.proofs.Lasting.{lives_there}
use Rattle.agree.proofs.laws.lives_are_covered.Goals as goal

pub returns : goal.returns
returns c = lives_there
