use Rattle.picture.proofs.Lateness.{late_as_audited}
use Rattle.picture.proofs.laws.late_returns_are_the_audits.Goals as goal

pub returns : goal.returns
returns c = late_as_audited
