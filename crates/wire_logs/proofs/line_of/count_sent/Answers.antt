use Rattle.vat_log.specs.Passages.{frame_sent}
use Rattle.link_check.proofs.Rest.{counted, not_counted}
use Rattle.wire_logs.proofs.line_of.count_sent.Goals as goal
use Rattle.wire_logs.proofs.line_of.count_sent.Goals.{then-is_some, else-is_some}

pub loop-index-preserved : goal.loop-index-preserved
loop-index-preserved c =
    elim c.if-is_some.branch [
      | then-is_some w ↦ rw w.count-is (counted (frame_sent 0) c.args.log.now.records c.loop-index.index c.loop-index.count c.sent_at.result c.is_some.result c.loop-index.invariant.0 c.loop-index.invariant.1 c.sent_at.ensures c.is_some.ensures w.if-is_some.true)
      | else-is_some w ↦ rw w.count-is (not_counted (frame_sent 0) c.args.log.now.records c.loop-index.index c.loop-index.count c.sent_at.result c.is_some.result c.loop-index.invariant.0 c.loop-index.invariant.1 c.sent_at.ensures c.is_some.ensures w.if-is_some.false)
    ]
