use Rattle.vat_view.proofs.Once.{one_return, one_finish}
use Rattle.vat_rules.proofs.Once.{each_uses_questions}
use Rattle.vat_rules.proofs.laws.good_openings_are_closed_once.Goals as goal

pub returns-clause-one_return : goal.returns-clause-one_return
returns-clause-one_return c = λ past good. one_return past (each_uses_questions past good)

pub returns-clause-one_finish : goal.returns-clause-one_finish
returns-clause-one_finish c = λ past good. one_finish past (each_uses_questions past good)
