use Rattle.std.proofs.Common.{rules}
use Rattle.vat_view.proofs.lookups.settling.settled_by.Goals as goal

pub returns-in-Wire-false-default-default-default-Return : goal.returns-in-Wire-false-default-default-default-Return
returns-in-Wire-false-default-default-default-Return c = rw c.results_of.ensures (rw c.of_receiver.ensures (search rules))

pub returns-in-Wire-false-default-default-default-Resolve : goal.returns-in-Wire-false-default-default-default-Resolve
returns-in-Wire-false-default-default-default-Resolve c = rw c.import_of.ensures (rw c.of_sender.ensures (search rules))
