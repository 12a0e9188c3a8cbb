use Rattle.lock_step.proofs.Finding.{found}
use Rattle.lock_step.proofs.laws.links_are_on_their_connections.Goals as goal

pub returns : goal.returns
returns c = λ links link rising there apart. found links link there.0 rising there.1 there.2 apart
