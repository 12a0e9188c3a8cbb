use Rattle.agree.proofs.Once.{one_return, one_finish}
use Rattle.agree.proofs.laws.openings_end_once.Goals as goal

pub returns-clause-one_return : goal.returns-clause-one_return
returns-clause-one_return c = one_return

pub returns-clause-one_finish : goal.returns-clause-one_finish
returns-clause-one_finish c = one_finish
