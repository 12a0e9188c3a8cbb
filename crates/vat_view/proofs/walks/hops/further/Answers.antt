use Rattle.std.proofs.Common.{suc}
use Rattle.vat_view.proofs.walks.hops.further.Goals as goal

pub returns-in-Some : goal.returns-in-Some
returns-in-Some c = (suc c.in-Some.ensures.0, c.in-Some.ensures.1)
