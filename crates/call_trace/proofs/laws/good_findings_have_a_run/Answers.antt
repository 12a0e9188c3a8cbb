use Rattle.call_trace.proofs.Good.{good_run}
use Rattle.call_trace.proofs.laws.good_findings_have_a_run.Goals as goal

pub returns : goal.returns
returns c = good_run
