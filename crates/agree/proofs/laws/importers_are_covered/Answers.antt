use Rattle.agree.proofs.Mates.{are_told}
use Rattle.agree.proofs.Covered.{held_at_cut, exporter_counts}
use Rattle.agree.proofs.laws.importers_are_covered.Goals as goal

pub returns-clause-told : goal.returns-clause-told
returns-clause-told c = are_told

pub returns-clause-held : goal.returns-clause-held
returns-clause-held c = held_at_cut

pub returns-clause-counted : goal.returns-clause-counted
returns-clause-counted c = exporter_counts
