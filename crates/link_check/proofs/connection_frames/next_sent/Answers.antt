use Rattle.std.proofs.Common.{arith}
use Rattle.vat_log.specs.Passages.{frame_sent}
use Rattle.link_check.proofs.Rest.{found, passed}
use Rattle.link_check.proofs.connection_frames.next_sent.Goals as goal

pub returns-in-Some : goal.returns-in-Some
returns-in-Some c =
    (found (frame_sent c.args.connection) c.args.log.now.records c.args.from c.loop-index.index c.in-Some.frame.now c.loop-index.invariant c.in-Some.ensures, omega arith, omega (arith, c.len-index-end.ensures.value))

pub loop-index-preserved : goal.loop-index-preserved
loop-index-preserved c = passed (frame_sent c.args.connection) c.args.log.now.records c.args.from c.loop-index.index c.loop-index.invariant c.in_default.ensures
