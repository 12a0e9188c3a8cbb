use Rattle.std.proofs.Common.{◌≡◌, None, drop}
use Rattle.case_book.specs.Case.{connections_of}
use Rattle.case_book.specs.Glue.{first_same}
use Rattle.case_book.proofs.rising.repeated_connection.Given as goal

abbrev pub invariant-loop-link : goal.invariant-loop-link
invariant-loop-link l = first_same None (connections_of l.links) ≡ first_same l.previous (connections_of (drop l.link-index l.links))
