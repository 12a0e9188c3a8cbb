use Rattle.call_trace.proofs.Leading.{firsts_lead}
use Rattle.call_trace.proofs.laws.first_editions_lead.Goals as goal

pub returns : goal.returns
returns c = firsts_lead
