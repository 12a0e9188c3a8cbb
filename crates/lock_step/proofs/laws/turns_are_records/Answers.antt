use Rattle.lock_step.proofs.Counting.{counted, counted_all}
use Rattle.lock_step.proofs.laws.turns_are_records.Goals as goal

pub returns-clause-all : goal.returns-clause-all
returns-clause-all c = λ logs turns rising all. counted_all logs turns rising all

pub returns-clause-some : goal.returns-clause-some
returns-clause-some c = λ logs turns test rising all. counted test logs turns rising all
