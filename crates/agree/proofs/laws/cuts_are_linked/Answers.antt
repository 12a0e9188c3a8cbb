use Rattle.agree.proofs.Standing.{linked_before}
use Rattle.agree.proofs.laws.cuts_are_linked.Goals as goal

pub returns : goal.returns
returns c = linked_before
