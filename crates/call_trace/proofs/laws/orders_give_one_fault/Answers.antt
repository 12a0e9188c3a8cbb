use Rattle.call_trace.proofs.Orders.{one_order_fault, one_list_of_edges}
use Rattle.call_trace.proofs.laws.orders_give_one_fault.Goals as goal

pub returns-clause-fault : goal.returns-clause-fault
returns-clause-fault c = one_order_fault

pub returns-clause-edges : goal.returns-clause-edges
returns-clause-edges c = one_list_of_edges
