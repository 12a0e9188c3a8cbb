use Rattle.cap_reader.proofs.Paid.{paid_exactly, words_are_paid}
use Rattle.cap_reader.proofs.laws.structs_are_paid.Goals as goal

pub returns-clause-exact : goal.returns-clause-exact
returns-clause-exact c = paid_exactly

pub returns-clause-words : goal.returns-clause-words
returns-clause-words c = words_are_paid
