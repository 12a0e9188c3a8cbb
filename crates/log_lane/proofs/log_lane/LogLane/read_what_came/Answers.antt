use Rattle.std.proofs.Common.{false}
use Rattle.log_lane.proofs.Reading.{read_on}
use Rattle.log_lane.proofs.log_lane.LogLane.read_what_came.Goals as goal

pub returns-then-not-read-clause-more : goal.returns-then-not-read-clause-more
returns-then-not-read-clause-more g c = λ lane is. read_on false c.loop.self c.read.new.self lane (c.loop.invariant.0 lane is) c.read.ensures.more c.read.ensures.refused

pub loop-preserved : goal.loop-preserved
loop-preserved g c = (
  λ lane is. read_on false c.loop.self c.read.new.self lane (c.loop.invariant.0 lane is) c.read.ensures.more c.read.ensures.refused,
  λ none. c.read.ensures.refused (c.loop.invariant.1 none),
)
