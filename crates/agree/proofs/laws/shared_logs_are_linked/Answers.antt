use Rattle.agree.proofs.Cuts.{shared_linked, row_cut, earlier_sent}
use Rattle.agree.proofs.laws.shared_logs_are_linked.Goals as goal

pub returns-clause-linked : goal.returns-clause-linked
returns-clause-linked c = shared_linked

pub returns-clause-cut : goal.returns-clause-cut
returns-clause-cut c = row_cut

pub returns-clause-earlier : goal.returns-clause-earlier
returns-clause-earlier c = earlier_sent
