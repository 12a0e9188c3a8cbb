use Rattle.call_order.proofs.OneFault.{one_fault_by}
use Rattle.call_order.proofs.laws.orders_have_one_fault.Goals as goal

pub returns : goal.returns
returns c = one_fault_by
