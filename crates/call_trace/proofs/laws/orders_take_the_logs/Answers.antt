use Rattle.call_trace.proofs.Sharing.{shared}
use Rattle.call_trace.proofs.Points.{log_taken_by, taken_good}
use Rattle.call_trace.proofs.laws.orders_take_the_logs.Goals as goal

pub returns-clause-logs : goal.returns-clause-logs
returns-clause-logs c = log_taken_by

pub returns-clause-good : goal.returns-clause-good
returns-clause-good c = taken_good

pub returns-clause-shared : goal.returns-clause-shared
returns-clause-shared c = shared
