use Rattle.std.proofs.Common.{sym, arith}
use Rattle.vat_log.specs.Passages.{passes}
use Rattle.picture.proofs.Stepping.{found, goes_by, passes_by, found_none}
use Rattle.picture.proofs.passing.frames.frame_number.Goals as goal
use Rattle.picture.proofs.passing.frames.frame_number.Goals.{then-is_passage+else-left-eq0, else-is_passage}

pub returns-then-left-eq0 : goal.returns-then-left-eq0
returns-then-left-eq0 c =
    sym (found (passes c.args.sent c.args.connection) c.args.log.now.records c.loop-at.at c.loop-at.left _ c.is_passage.result c.loop-at.invariant c.is_passage.ensures c.if-is_passage.true c.if-left-eq0.true)

pub loop-at-preserved : goal.loop-at-preserved
loop-at-preserved c =
    elim c.if-is_passage.branch [
      | then-is_passage+else-left-eq0 w ↦ rw w.left-is (goes_by (passes c.args.sent c.args.connection) c.args.log.now.records c.loop-at.at c.loop-at.left _ c.is_passage.result c.loop-at.invariant c.is_passage.ensures w.if-is_passage.true w.if-left-eq0.false)
      | else-is_passage w ↦ rw w.left-is (passes_by (passes c.args.sent c.args.connection) c.args.log.now.records c.loop-at.at c.loop-at.left _ c.is_passage.result c.loop-at.invariant c.is_passage.ensures w.if-is_passage.false)
    ]

pub returns : goal.returns
returns c = sym (found_none (passes c.args.sent c.args.connection) c.args.log.now.records c.loop-at.at c.loop-at.left _ c.loop-at.invariant (omega (arith, c.loop-at-test.false, c.len-at-end.ensures.value)))
