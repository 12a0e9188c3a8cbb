use Rattle.run_model.proofs.Meeting.{meets_itself, meets_back, meets_through, leads_meet, leads_on_became, meets_object, meets_later}
use Rattle.run_model.proofs.laws.caps_that_are_one.Goals as goal

pub returns-clause-itself : goal.returns-clause-itself
returns-clause-itself c = meets_itself

pub returns-clause-back : goal.returns-clause-back
returns-clause-back c = meets_back

pub returns-clause-through : goal.returns-clause-through
returns-clause-through c = meets_through

pub returns-clause-leads : goal.returns-clause-leads
returns-clause-leads c = leads_meet

pub returns-clause-became : goal.returns-clause-became
returns-clause-became c = leads_on_became

pub returns-clause-object : goal.returns-clause-object
returns-clause-object c = meets_object

pub returns-clause-later : goal.returns-clause-later
returns-clause-later c = meets_later
