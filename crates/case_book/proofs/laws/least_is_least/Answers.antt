use Rattle.case_book.proofs.Lowest.{least_of, only_least}
use Rattle.case_book.proofs.laws.least_is_least.Goals as goal

pub returns-clause-is : goal.returns-clause-is
returns-clause-is c = least_of

pub returns-clause-only : goal.returns-clause-only
returns-clause-only c = only_least
