use Rattle.std.proofs.Common.{arith}
use Rattle.std.proofs.lemmas.Grind.{common_steps}
use Rattle.case_book.specs.Ties.{tie_fault_of}
use Rattle.case_book.proofs.ties.tie_fault.Goals as goal

pub returns-in-Some : goal.returns-in-Some
unfolding tie_fault_of
returns-in-Some g c = grind (arith, common_steps)

pub returns : goal.returns
unfolding tie_fault_of
returns g c = grind (arith, common_steps)
