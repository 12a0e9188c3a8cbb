use Rattle.std.proofs.Common.{Some}
use Rattle.std.specs.BTreeMap.{get}
use Rattle.call_order.specs.Glue.Names.{call_key_cmp}
use Rattle.call_order.proofs.Keys.{put_key}
use Rattle.call_order.proofs.names_of_calls.Names.come.Goals as goal

pub returns : goal.returns
returns c = put_key (get call_key_cmp c.args.self.now.came) (get call_key_cmp c.insert.new.self) c.args.vat c.args.call (Some c.args.name) c.in_ok-insert.ensures.updates.0
