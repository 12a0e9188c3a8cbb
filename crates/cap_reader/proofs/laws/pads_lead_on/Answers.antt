use Rattle.cap_reader.proofs.Pads.{tree_by_one, tree_by_tag, tree_by_two}
use Rattle.cap_reader.proofs.laws.pads_lead_on.Goals as goal

pub returns-clause-one_word : goal.returns-clause-one_word
returns-clause-one_word c = tree_by_one

pub returns-clause-two_words : goal.returns-clause-two_words
returns-clause-two_words c = tree_by_tag

pub returns-clause-near : goal.returns-clause-near
returns-clause-near c = tree_by_two
