use Rattle.std.proofs.Common.{◌≡◌, ap, arith}
use Rattle.std.specs.Prelude.{count_by, is_none}
use Rattle.case_book.specs.Books.{Kept, missing_in}
use Rattle.case_book.proofs.Booking.{placed_in, are_all}
use Rattle.case_book.proofs.book.Book.into_findings.Goals as goal

pub part_findings-vats-requires-clause-placed : goal.part_findings-vats-requires-clause-placed
part_findings-vats-requires-clause-placed c =
    let book : Kept = record { case = c.self.inside.case; claimed = c.self.inside.claimed.items; found = c.self.inside.found.items } in
    let same = ap missing_in c.self.view_is in
    let none : count_by is_none c.self.inside.found.items ≡ 0 = omega (arith, same, c.missing.ensures, c.if-missing-gt0.false) in
    rw (c.self.invariant.3, c.self.invariant.5) (placed_in book c.self.invariant.0 none)

pub new-requires : goal.new-requires
new-requires c =
    are_all c.self.inside.case c.self.inside.claimed.items c.self.inside.found.items c.part_findings-vats.result.0.items c.part_findings-vats.result.1.items c.self.invariant.0 c.part_findings-vats.ensures
