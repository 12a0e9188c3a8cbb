use Rattle.vat_log.specs.Passages.{passes}
use Rattle.picture.proofs.Stepping.{counts, counts_not}
use Rattle.picture.proofs.passing.frames.frames_before.Goals as goal
use Rattle.picture.proofs.passing.frames.frames_before.Goals.{then-is_passage, else-is_passage}

pub loop-at-preserved : goal.loop-at-preserved
loop-at-preserved c =
    elim c.if-is_passage.branch [
      | then-is_passage w ↦ rw w.frames-is (counts (passes c.args.sent c.args.connection) c.args.log.now.records c.loop-at.at c.loop-at.frames c.is_passage.result c.loop-at.invariant.0 c.loop-at.invariant.1 c.is_passage.ensures w.if-is_passage.true)
      | else-is_passage w ↦ rw w.frames-is (counts_not (passes c.args.sent c.args.connection) c.args.log.now.records c.loop-at.at c.loop-at.frames c.is_passage.result c.loop-at.invariant.0 c.loop-at.invariant.1 c.is_passage.ensures w.if-is_passage.false)
    ]
