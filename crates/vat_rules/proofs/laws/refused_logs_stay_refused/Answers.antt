use Rattle.vat_rules.specs.Audit.{reads_by, edition_of}
use Rattle.vat_rules.proofs.Longer.{broken_longer, outside_longer}
use Rattle.vat_rules.proofs.laws.refused_logs_stay_refused.Goals as goal

pub returns-clause-broken : goal.returns-clause-broken
returns-clause-broken c = λ log limits at rule first more.
    broken_longer (edition_of log) (reads_by (edition_of log) limits) log.records more at rule first

pub returns-clause-outside : goal.returns-clause-outside
returns-clause-outside c = λ log limits at why first more.
    outside_longer (edition_of log) (reads_by (edition_of log) limits) log.records more at why first
