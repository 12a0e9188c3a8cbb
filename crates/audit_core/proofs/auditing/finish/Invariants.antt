use Rattle.std.proofs.Common.{◌≡◌}
use Rattle.case_book.specs.Books.{missing_in}
use Rattle.audit_core.proofs.auditing.finish.Given as goal

abbrev pub invariant-loop-piece : goal.invariant-loop-piece
invariant-loop-piece g l = l.book.case ≡ l.fn.book.case

abbrev pub decreases-loop-piece : goal.decreases-loop-piece
decreases-loop-piece g l = missing_in l.book
