use Rattle.std.proofs.Common.{map}
use Rattle.std.specs.Arc.{arc_value}
use Rattle.picture.specs.Rows.{column_at}
use Rattle.picture.proofs.Listing.{one_more}
use Rattle.picture.proofs.columns.columns_of.Goals as goal

pub loop-log-preserved : goal.loop-log-preserved
loop-log-preserved c =
    one_more (column_at (map arc_value c.args.logs.now) c.args.line) arc_value c.args.logs.now c.loop-log.log-index c.log-item.result c.log-item.result c.deref.result.now c.column_at.result
    c.loop-log.columns.items c.push.new.self.items _ c.loop-log-test.true c.log-item.is c.deref.ensures c.column_at.ensures c.in_ok-push.ensures.items c.loop-log.invariant
