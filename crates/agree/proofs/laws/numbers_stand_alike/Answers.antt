use Rattle.agree.proofs.Standing.{lives_agree}
use Rattle.agree.proofs.laws.numbers_stand_alike.Goals as goal

pub returns : goal.returns
returns c = lives_agree
