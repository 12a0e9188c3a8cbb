use Rattle.run_model.proofs.Sending.{was_sent}
use Rattle.run_model.proofs.laws.what_is_received_was_sent.Goals as goal

pub returns : goal.returns
returns c = was_sent
