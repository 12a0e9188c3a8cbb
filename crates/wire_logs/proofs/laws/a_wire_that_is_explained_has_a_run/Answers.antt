use Rattle.wire_logs.proofs.Yes.{yes_has_run}
use Rattle.wire_logs.proofs.laws.a_wire_that_is_explained_has_a_run.Goals as goal

pub returns : goal.returns
returns c = yes_has_run
