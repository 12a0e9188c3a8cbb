use Rattle.cap_reader.proofs.Texts.{zero_ends}
use Rattle.cap_reader.proofs.laws.texts_end_in_a_zero.Goals as goal

pub returns : goal.returns
returns c = zero_ends
