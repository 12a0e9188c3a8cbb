use Rattle.std.proofs.Common.{◌≡◌, ◌*◌, ◌≤◌, ◌^◌, take}
use Rattle.std.specs.Prelude.{sum}
use Rattle.cap_frame.specs.Segments.{sizes_of}
use Rattle.cap_frame.proofs.table.words_before.Given as goal

abbrev pub invariant-loop-before : goal.invariant-loop-before
invariant-loop-before l = (l.words ≡ sum (take l.before (sizes_of l.bytes))) × (l.words ≤ l.before * 2 ^ 32)
