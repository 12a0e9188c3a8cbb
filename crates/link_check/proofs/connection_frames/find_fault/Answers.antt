use Rattle.std.proofs.Common.{arith}
use Rattle.link_check.proofs.Faults.{ends_here, none_sent, another_sent, goes_on}
use Rattle.link_check.proofs.connection_frames.find_fault.Goals as goal

pub returns-in_default-next_sent : goal.returns-in_default-next_sent
returns-in_default-next_sent c = none_sent _ _ _ _ _ _ c.loop-after.invariant.0 c.in-Some.ensures.0 c.in_default-next_sent.ensures

pub returns-then-ne : goal.returns-then-ne
returns-then-ne c = another_sent _ _ _ _ _ _ _ _ _ c.loop-after.invariant.0 c.in-Some.ensures.0 c.in-Some-next_sent.ensures.0 c.ne.ensures c.if-ne.true

pub loop-after-preserved : goal.loop-after-preserved
loop-after-preserved c =
    (goes_on _ _ _ _ _ _ _ _ _ c.loop-after.invariant.0 c.in-Some.ensures.0 c.in-Some-next_sent.ensures.0 c.ne.ensures c.if-ne.false, omega (arith, c.in-Some.ensures.1, c.loop-after.invariant.1))

pub returns : goal.returns
returns c = ends_here _ _ _ _ c.loop-after.invariant.0 c.in_default.ensures
