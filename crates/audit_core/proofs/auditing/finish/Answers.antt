use Rattle.std.proofs.Common.{length, Option, subst}
use Rattle.std.specs.Prelude.{◌≤◌, MatchOption}
use Rattle.case_book.specs.Case.{Contents}
use Rattle.case_book.specs.Pieces.{pieces_of, IsForPiece}
use Rattle.case_book.specs.declared.piece_finding.Finding.{Finding}
use Rattle.audit_core.proofs.Posting.{missing_claimed, none_is_missing}
use Rattle.audit_core.proofs.auditing.finish.Goals as goal

pub keep-requires-clause-own : goal.keep-requires-clause-own
keep-requires-clause-own g c =
    let own = subst (λ (o : Option Finding). MatchOption o (length (pieces_of c.case.result.now) ≤ c.in-Some.piece.number) (λ found. IsForPiece c.case.result.now found c.in-Some.piece.number))
    c.in-Some-2.is c.in_ok-found.ensures in
    subst (λ (held : Contents). IsForPiece held c.in-Some-2.found c.in-Some.piece.number) c.case.ensures.lent own

pub keep-requires-clause-missing : goal.keep-requires-clause-missing
keep-requires-clause-missing g c =
    (missing_claimed c.loop-piece.book c.next_missing.new.self c.in-Some.piece.number c.case.ensures.kept c.in-Some.ensures.after c.in-Some.ensures.answer).0

pub keep-requires-clause-claimed : goal.keep-requires-clause-claimed
keep-requires-clause-claimed g c =
    (missing_claimed c.loop-piece.book c.next_missing.new.self c.in-Some.piece.number c.case.ensures.kept c.in-Some.ensures.after c.in-Some.ensures.answer).1

pub unreachable-requires-in-Err : goal.unreachable-requires-in-Err
unreachable-requires-in-Err g c =
    none_is_missing c.loop-piece.book c.next_missing.new.self c.in_default.ensures.after c.in_default.ensures.answer c.in-Err.ensures.err.1
