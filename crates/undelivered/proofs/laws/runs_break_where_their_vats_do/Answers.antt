use Rattle.std.proofs.Common.{reverse}
use Rattle.undelivered.proofs.OfRuns.{told_once, told_early}
use Rattle.undelivered.proofs.laws.runs_break_where_their_vats_do.Goals as goal

pub returns-clause-once : goal.returns-clause-once
returns-clause-once c = λ run legal linked vat. told_once (reverse run) legal linked vat

pub returns-clause-early : goal.returns-clause-early
returns-clause-early c = λ run legal linked place. told_early (reverse run) legal linked place
