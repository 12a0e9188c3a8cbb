use Rattle.cap_reader.proofs.Alike.{trees_alike}
use Rattle.cap_reader.proofs.Instance.{one_release}
use Rattle.cap_reader.proofs.laws.cuts_keep_values.Goals as goal

pub returns-clause-values : goal.returns-clause-values
returns-clause-values c = trees_alike

pub returns-clause-release : goal.returns-clause-release
returns-clause-release c = one_release
