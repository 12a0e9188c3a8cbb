use Rattle.vat_log.proofs.Runs.{runs_go_on, runs_have_headers}
use Rattle.vat_log.proofs.laws.runs_of_one_log.Goals as goal

pub returns-clause-headers : goal.returns-clause-headers
returns-clause-headers c = λ bytes log b. runs_have_headers bytes log b

pub returns-clause-one_run : goal.returns-clause-one_run
returns-clause-one_run c = λ bytes log longer p q le. runs_go_on bytes log longer p q le
