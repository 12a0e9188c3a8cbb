use Rattle.std.proofs.Common.{sym, ◌∙◌, subst}
use Rattle.case_book.specs.Books.{Kept, IsClaimed, IsMissing}
use Rattle.case_book.specs.Pieces.{IsForPiece}
use Rattle.case_book.proofs.Booking.{missing_at, claimed_at}
use Rattle.case_book.proofs.book.Book.post.Goals as goal

pub place-requires-clause-own : goal.place-requires-clause-own
place-requires-clause-own c = subst (λ (b : Kept). IsForPiece b.case c.args.finding c.in-Some.number) c.self.view_is c.in-Some.ensures

pub place-requires-clause-missing : goal.place-requires-clause-missing
place-requires-clause-missing c =
    let book : Kept = record { case = c.self.inside.case; claimed = c.self.inside.claimed.items; found = c.self.inside.found.items } in
    subst (λ (b : Kept). IsMissing b c.in-Some.number) c.self.view_is
    (missing_at book c.args.finding c.in-Some.number c.index.result.now c.self.invariant.0 c.in-Some.ensures c.index.ensures (sym c.is_some.ensures ∙ c.if-is_some.false))

pub returns-clause-ok : goal.returns-clause-ok
returns-clause-ok c =
    let book : Kept = record { case = c.self.inside.case; claimed = c.self.inside.claimed.items; found = c.self.inside.found.items } in
    let missing = missing_at book c.args.finding c.in-Some.number c.index.result.now c.self.invariant.0 c.in-Some.ensures c.index.ensures (sym c.is_some.ensures ∙ c.if-is_some.false) in
    let claimed = claimed_at book c.args.finding c.in-Some.number c.index-2.result.now c.self.invariant.0 c.in-Some.ensures c.index-2.ensures c.if-not-index.false in
    record {
      number = c.in-Some.number;
      own = subst (λ (b : Kept). IsForPiece b.case c.args.finding c.in-Some.number) c.self.view_is c.in-Some.ensures;
      was_missing = subst (λ (b : Kept). IsMissing b c.in-Some.number) c.self.view_is missing;
      was_claimed = subst (λ (b : Kept). IsClaimed b c.in-Some.number) c.self.view_is claimed;
      after_is = c.place.ensures.after;
    }

pub returns-clause-fewer : goal.returns-clause-fewer
returns-clause-fewer c = c.place.ensures.fewer
