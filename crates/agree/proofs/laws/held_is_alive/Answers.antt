use Rattle.agree.proofs.Held.{all_alive, held_is_alive, alive_is_held}
use Rattle.agree.proofs.laws.held_is_alive.Goals as goal

pub returns-clause-all : goal.returns-clause-all
returns-clause-all c = all_alive

pub returns-clause-held : goal.returns-clause-held
returns-clause-held c = held_is_alive

pub returns-clause-exact : goal.returns-clause-exact
returns-clause-exact c = alive_is_held
