-- What a file of frames is, one right after another, and what may stand behind them.
use Rattle.std.specs.Prelude.{◌≡◌, ℕ, ◌+◌, ◌*◌, ◌<◌, ◌≤◌, List, ◌++◌, length, Err}
use Rattle.std.specs.List.{All, flat_map}
use Rattle.cap_frame.specs.declared.frame_error.FrameError.TheVariants.{Short, TooManySegments}
use Rattle.cap_frame.specs.Segments.{IsOneFrame, segments_of, first_len_of, frame_len, segment_count}

-- how many bytes a frame may have (docs/FORMATS.md, on limits)
abbrev pub frame_limit : ℕ
frame_limit = 67108864

-- the frame that begins here is longer than a frame may be: the sizes of its segments, which stand here all, say so, whether
-- or not the segments stand here too
pub record BeginsTooLong (bytes : List ℕ) : Type 0 where
  pub sizes : 4 * (segment_count bytes + 1) ≤ length bytes
  pub few : segment_count bytes ≤ 512
  pub long : frame_limit < frame_len bytes

-- the bytes are these frames, one after another, and then a rest
pub record BeginsWith (bytes : List ℕ) (frames : List (List ℕ)) (rest : List ℕ) : Type 0 where
  pub parts : bytes ≡ flat_map (λ frame. frame) frames ++ rest
  pub each : All (λ frame. IsOneFrame (segments_of frame)) frames
  pub short : All (λ frame. length frame ≤ frame_limit) frames

-- nothing, or a frame that is cut off and isn't too long by its sizes
pub record IsCutOff (rest : List ℕ) : Type 0 where
  pub cut : first_len_of rest ≡ Err Short
  pub short : BeginsTooLong rest → ⊥

-- the bytes are these frames and then so many bytes: nothing, or a frame that is cut off
pub record AreFrames (bytes : List ℕ) (frames : List (List ℕ)) (left : ℕ) : Type 0 where
  pub rest : List ℕ
  pub begins : BeginsWith bytes frames rest
  pub many : length rest ≡ left
  pub ended : IsCutOff rest

-- behind so many frames comes what no file may go on with
pub record StopsBy (fault : List ℕ → Type 0) (bytes : List ℕ) (count : ℕ) : Type 0 where
  pub frames : List (List ℕ)
  pub rest : List ℕ
  pub begins : BeginsWith bytes frames rest
  pub many : length frames ≡ count
  pub ended : fault rest

-- behind so many frames no frame can begin, since its table has too many segments
abbrev pub StopsAt : List ℕ → ℕ → Type 0
StopsAt bytes count = StopsBy (λ rest. first_len_of rest ≡ Err TooManySegments) bytes count

-- behind so many frames one begins that is longer than a frame may be
abbrev pub IsTooLongAt : List ℕ → ℕ → Type 0
IsTooLongAt bytes count = StopsBy BeginsTooLong bytes count
