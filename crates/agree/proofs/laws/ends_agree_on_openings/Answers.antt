use Rattle.agree.proofs.Openings.{own_linked, openings_linked, late_linked}
use Rattle.agree.proofs.laws.ends_agree_on_openings.Goals as goal

pub returns-clause-own : goal.returns-clause-own
returns-clause-own c = own_linked

pub returns-clause-returned : goal.returns-clause-returned
returns-clause-returned c = openings_linked

pub returns-clause-late : goal.returns-clause-late
returns-clause-late c = late_linked
