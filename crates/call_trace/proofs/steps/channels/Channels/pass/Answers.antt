use Rattle.std.specs.BTreeMap.{get}
use Rattle.call_trace.specs.Glue.Overtaking.{vat_number_cmp}
use Rattle.call_trace.proofs.Passing.{put_number}
use Rattle.call_trace.proofs.steps.channels.Channels.pass.Goals as goal

pub returns-clause-passed : goal.returns-clause-passed
returns-clause-passed c =
    put_number (get vat_number_cmp c.args.self.now.passed) (get vat_number_cmp c.insert.new.self) c.args.vat c.args.connection c.args.count c.in_ok-insert.ensures.updates.0
