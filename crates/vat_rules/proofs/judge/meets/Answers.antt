use Rattle.vat_rules.proofs.judge.meets.Goals as goal

pub returns-in-Ref : goal.returns-in-Ref
returns-in-Ref c = rw c.in-Ref.is c.refers.ensures

pub returns-in-QUse : goal.returns-in-QUse
returns-in-QUse c = rw c.in-QUse.is c.uses_questions.ensures

pub returns-in-Desc : goal.returns-in-Desc
returns-in-Desc c = rw c.in-Desc.is c.describes.ensures

pub returns-in-Count : goal.returns-in-Count
returns-in-Count c = rw c.in-Count.is c.gives_back_held.ensures
