use Rattle.agree.proofs.Good.{good_arrives}
use Rattle.agree.proofs.laws.messages_arrive_well.Goals as goal

pub returns : goal.returns
returns c = good_arrives
