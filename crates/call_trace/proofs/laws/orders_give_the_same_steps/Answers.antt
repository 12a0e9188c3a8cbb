use Rattle.call_trace.proofs.Orders.{have_same_steps, references_kept}
use Rattle.call_trace.proofs.laws.orders_give_the_same_steps.Goals as goal

pub returns-clause-steps : goal.returns-clause-steps
returns-clause-steps c = have_same_steps

pub returns-clause-references : goal.returns-clause-references
returns-clause-references c = references_kept
