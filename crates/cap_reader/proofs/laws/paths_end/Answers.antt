use Rattle.cap_reader.proofs.Deep.{path_is_short}
use Rattle.cap_reader.proofs.laws.paths_end.Goals as goal

pub returns : goal.returns
returns c = path_is_short
