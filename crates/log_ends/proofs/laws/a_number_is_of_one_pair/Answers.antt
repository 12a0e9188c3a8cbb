use Rattle.log_ends.proofs.Kept.{matched, injective}
use Rattle.log_ends.proofs.laws.a_number_is_of_one_pair.Goals as goal

pub returns : goal.returns
returns c = record { matched = matched; injective = injective }
