use Rattle.std.proofs.Common.{◌≡◌, ◌*◌, ◌≤◌, ◌^◌, take}
use Rattle.std.specs.Prelude.{sum}
use Rattle.cap_frame.specs.Segments.{sizes_of}
use Rattle.wire_cut.proofs.table.words_in.Given as goal

abbrev pub invariant-loop-segment : goal.invariant-loop-segment
invariant-loop-segment l = (l.words ≡ sum (take l.segment (sizes_of l.bytes))) × (l.words ≤ l.segment * 2 ^ 32)
