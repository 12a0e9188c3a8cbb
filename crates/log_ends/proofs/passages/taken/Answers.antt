use Rattle.std.proofs.Common.{sym}
use Rattle.log_ends.proofs.passages.taken.Goals as goal

pub returns-in-Some-clause-passed : goal.returns-in-Some-clause-passed
returns-in-Some-clause-passed c = λ numbers sent received has. (has.there c.args.connection c.in-Some.passed (sym c.in-Some.ensures.value)).0
