use Rattle.agree.proofs.Good.{good_agree, good_balanced}
use Rattle.agree.proofs.laws.good_ends_agree.Goals as goal

pub returns-clause-agree : goal.returns-clause-agree
returns-clause-agree c = good_agree

pub returns-clause-balanced : goal.returns-clause-balanced
returns-clause-balanced c = good_balanced
