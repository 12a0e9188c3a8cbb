use Rattle.std.proofs.Common.{◌≡◌, fold}
use Rattle.std.specs.Prelude.{filter}
use Rattle.case_book.specs.Least.{lower}
use Rattle.case_book.specs.Ties.{is_unlinked}
use Rattle.case_book.proofs.case_log.least_unlinked_of.Given as goal

abbrev pub invariant-loop-connection : goal.invariant-loop-connection
invariant-loop-connection l =
    fold lower l.initial.found (filter (is_unlinked l.links l.vat) l.connections.keys) ≡ fold lower l.found (filter (is_unlinked l.links l.vat) l.connection-iterator)
