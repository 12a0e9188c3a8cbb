use Rattle.case_book.proofs.Numbered.{for_one}
use Rattle.case_book.proofs.laws.a_finding_is_for_one_piece.Goals as goal

pub returns : goal.returns
returns c = for_one
