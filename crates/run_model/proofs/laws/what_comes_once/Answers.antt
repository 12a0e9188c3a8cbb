use Rattle.run_model.proofs.Once.{begins_once, ends_once, settles_once}
use Rattle.run_model.proofs.laws.what_comes_once.Goals as goal

pub returns-clause-begun : goal.returns-clause-begun
returns-clause-begun c = begins_once

pub returns-clause-ended : goal.returns-clause-ended
returns-clause-ended c = ends_once

pub returns-clause-settled : goal.returns-clause-settled
returns-clause-settled c = settles_once
