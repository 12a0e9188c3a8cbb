use Rattle.log_ends.proofs.OnlyPairs.{only_pairs}
use Rattle.log_ends.proofs.laws.ends_are_joined_in_one_way.Goals as goal

pub returns : goal.returns
returns c = only_pairs
