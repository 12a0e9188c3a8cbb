-- What stands next in a file of frames.
use Rattle.std.specs.Prelude.{◌≡◌, ℕ, ◌<◌, ◌≤◌, List, ◌++◌, length, Err}
use Rattle.cap_frame.specs.declared.frame_error.FrameError.TheVariants.{TooManySegments}
use Rattle.cap_frame.specs.Segments.{IsOneFrame, segments_of, first_len_of}
use Rattle.wire_cut.specs.declared.cut.Next.{Next}
use Rattle.wire_cut.specs.declared.cut.Next.TheVariants as next
use Rattle.wire_cut.specs.declared.cut.CutFault.{CutFault}
use Rattle.wire_cut.specs.declared.cut.CutFault.TheVariants as fault
use Rattle.wire_cut.specs.Frames.{BeginsTooLong, IsCutOff, IsTooLongAt, StopsAt, frame_limit}

-- a frame that may be cut off, and what is left behind it
pub record IsCutFrom (old new frame : List ℕ) : Type 0 where
  pub parts : old ≡ frame ++ new
  pub one : IsOneFrame (segments_of frame)
  pub short : length frame ≤ frame_limit
  pub less : length new < length old

-- a frame and what is left behind it; or what no whole frame begins
abbrev pub IsNextFrame : List ℕ → List ℕ → Next → Type 0
IsNextFrame old new (next.Whole frame) = IsCutFrom old new frame
IsNextFrame old new next.Cut = (new ≡ old) × IsCutOff old
IsNextFrame old new next.TooMany = (new ≡ old) × (first_len_of old ≡ Err TooManySegments)
IsNextFrame old new next.TooLong = (new ≡ old) × BeginsTooLong old

-- why a file isn't cut, but for running out of memory
abbrev pub IsCutFault : List ℕ → CutFault → Type 0
IsCutFault bytes (fault.TooManySegments count) = StopsAt bytes count
IsCutFault bytes (fault.TooLong count) = IsTooLongAt bytes count
IsCutFault bytes fault.OutOfMemory = Unit {0}
