use Rattle.std.proofs.Common.{◌≡◌, None, false, replicate}
use Rattle.case_book.proofs.book.empty_places.Given as goal

abbrev pub invariant-loop : goal.invariant-loop
invariant-loop l = (l.claimed.items ≡ replicate l.counter false) × (l.found.items ≡ replicate l.counter None)
