use Rattle.std.proofs.Common.{sym, ap, ◌∙◌, subst, arith}
use Rattle.case_book.specs.Books.{Kept, IsMissing, missing_in, with_finding}
use Rattle.case_book.specs.Pieces.{IsForPiece}
use Rattle.case_book.proofs.Booking.{some_missing, one_fewer, finding_kept}
use Rattle.case_book.proofs.book.Book.place.Goals as goal

pub overflow_sub-self : goal.overflow_sub-self
overflow_sub-self c =
    let missing = subst (λ (b : Kept). IsMissing b c.args.number) (sym c.self.view_is) c.requires.missing in
    omega (arith, some_missing c.self.inside.found.items c.args.number missing, c.self.invariant.1)

pub invariant_of-self : goal.invariant_of-self
invariant_of-self c =
    let book : Kept = record { case = c.self.inside.case; claimed = c.self.inside.claimed.items; found = c.self.inside.found.items } in
    let missing = subst (λ (b : Kept). IsMissing b c.args.number) (sym c.self.view_is) c.requires.missing in
    let own = subst (λ (b : Kept). IsForPiece b.case c.args.finding c.args.number) (sym c.self.view_is) c.requires.own in (
      finding_kept book c.args.number c.args.finding c.self.invariant.0 own,
      omega (arith, one_fewer c.self.inside.found.items c.args.number c.args.finding missing, c.self.invariant.1),
      c.self.invariant.2,
      c.self.invariant.3,
      c.self.invariant.4,
      c.self.invariant.5,
    )

pub returns-clause-after : goal.returns-clause-after
returns-clause-after c = ap (λ (b : Kept). with_finding b c.args.number c.args.finding) c.self.view_is

pub returns-clause-fewer : goal.returns-clause-fewer
returns-clause-fewer c =
    let missing = subst (λ (b : Kept). IsMissing b c.args.number) (sym c.self.view_is) c.requires.missing in
    one_fewer c.self.inside.found.items c.args.number c.args.finding missing ∙ ap missing_in c.self.view_is
