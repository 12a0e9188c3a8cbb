use Rattle.call_trace.proofs.Within.{all_meet, ones_meet, names_became}
use Rattle.call_trace.proofs.laws.views_meet_in_the_run.Goals as goal

pub returns-clause-leads : goal.returns-clause-leads
returns-clause-leads c = all_meet

pub returns-clause-ones : goal.returns-clause-ones
returns-clause-ones c = ones_meet

pub returns-clause-became : goal.returns-clause-became
returns-clause-became c = names_became
