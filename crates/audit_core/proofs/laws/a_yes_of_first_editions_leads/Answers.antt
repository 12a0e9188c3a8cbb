use Rattle.audit_core.proofs.OneReport.{yes_leads}
use Rattle.audit_core.proofs.laws.a_yes_of_first_editions_leads.Goals as goal

pub returns : goal.returns
returns c = yes_leads
