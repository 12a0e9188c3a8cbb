use Rattle.cap_reader.proofs.Rising.{listed_rise}
use Rattle.cap_reader.proofs.laws.paths_rise.Goals as goal

pub returns : goal.returns
returns c = listed_rise
