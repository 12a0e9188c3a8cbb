use Rattle.agree.proofs.Balance.{balanced}
use Rattle.agree.proofs.laws.counts_are_balanced.Goals as goal

pub returns : goal.returns
returns c = balanced
