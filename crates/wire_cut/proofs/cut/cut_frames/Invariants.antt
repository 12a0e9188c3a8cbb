use Rattle.std.proofs.Common.{length}
use Rattle.wire_cut.specs.Frames.{BeginsWith}
use Rattle.wire_cut.proofs.cut.cut_frames.Given as goal

abbrev pub invariant-loop-rest : goal.invariant-loop-rest
invariant-loop-rest l = BeginsWith l.bytes l.frames.items l.rest

abbrev pub decreases-loop-rest : goal.decreases-loop-rest
decreases-loop-rest l = length l.rest
