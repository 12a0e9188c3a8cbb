use Rattle.merge_order.proofs.Reading.{found_law, only_law}
use Rattle.merge_order.proofs.format.read_order.Goals as goal

pub returns-clause-found : goal.returns-clause-found
returns-clause-found c = found_law c.args.bytes c.as_slice.result.now c.order_in.result c.as_slice.ensures c.order_in.ensures.octets c.order_in.ensures.exact

pub returns-clause-only : goal.returns-clause-only
returns-clause-only c = only_law c.args.bytes c.as_slice.result.now c.order_in.result c.as_slice.ensures c.order_in.ensures.exact
