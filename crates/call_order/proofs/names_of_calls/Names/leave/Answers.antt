use Rattle.std.proofs.Common.{None}
use Rattle.std.specs.BTreeMap.{get}
use Rattle.call_order.specs.Glue.Names.{call_key_cmp}
use Rattle.call_order.proofs.Keys.{put_key}
use Rattle.call_order.proofs.names_of_calls.Names.leave.Goals as goal

pub returns-in-Some-clause-left : goal.returns-in-Some-clause-left
returns-in-Some-clause-left c = put_key (get call_key_cmp c.args.self.now.came) (get call_key_cmp c.remove.new.self) c.args.vat c.args.call None c.remove.ensures.updates.0
