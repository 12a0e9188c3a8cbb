-- What bytes spell by the stream framing of the Cap'n Proto encoding specification ("Serialization Over a Stream").
-- A byte is a number below 256, a word is 8 bytes, and the lowest byte of a number comes first.
use Rattle.std.specs.Prelude.{◌≡◌, ◌⊎◌, ℕ, zero, suc, ◌+◌, ◌-◌, ◌*◌, ◌/◌, ◌%◌, ◌^◌, ◌<◌, ◌≤◌, ◌==◌, List, [], ◌∷◌, ◌++◌, length, map, drop, sum, Option, Result, Ok, Err, IsOk, nat_lt, if◌then◌else◌, slice_get, slice_index, slice_index_or, All}
use Rattle.std.specs.List.{flat_map}
use Rattle.byteorder.specs.Endian.{little_number, little_bytes}
use Rattle.cap_frame.specs.declared.frame_error.FrameError.{FrameError}
use Rattle.cap_frame.specs.declared.frame_error.FrameError.TheVariants.{Short, TooManySegments, Trailing, NoRoot}

-- the first n numbers of `width` bytes each, one after another
unfoldable pub numbers : (width n : ℕ) → List ℕ → List ℕ
numbers width zero bytes = []
numbers width (suc n) bytes = little_number width bytes ∷ numbers width n (drop width bytes)

-- "(4 bytes) The number of segments, minus one"
abbrev pub segment_count : List ℕ → ℕ
segment_count bytes = little_number 4 bytes + 1

-- "(N * 4 bytes) The size of each segment, in words"
abbrev pub sizes_of : List ℕ → List ℕ
sizes_of bytes = numbers 4 (segment_count bytes) (drop 4 bytes)

-- the bytes of the number, of the sizes and of "(0 or 4 bytes) Padding up to the next word boundary"
abbrev pub table_len : ℕ → ℕ
table_len count = 8 * (count / 2 + 1)

-- the segments of these sizes, one after another
unfoldable pub cut_segments : List ℕ → List ℕ → List (List ℕ)
cut_segments [] bytes = []
cut_segments (size ∷ sizes) bytes = numbers 8 size bytes ∷ cut_segments sizes (drop (8 * size) bytes)

-- "The content of each segment, in order"
abbrev pub content : List ℕ → List (List ℕ)
content bytes = cut_segments (sizes_of bytes) (drop (table_len (segment_count bytes)) bytes)

-- the bytes that the table asks for, its own among them
abbrev pub frame_len : List ℕ → ℕ
frame_len bytes = table_len (segment_count bytes) + 8 * sum (sizes_of bytes)

-- The length in bytes of the frame that stands first in the bytes, or the first fault; whatever stands after it doesn't
-- matter. At most 512 segments are read.
unfoldable pub first_len_of : List ℕ → Result ℕ FrameError
first_len_of bytes =
    if nat_lt (length bytes) 4 then Err Short
    else (if nat_lt 512 (segment_count bytes) then Err TooManySegments
    else (if nat_lt (length bytes) (frame_len bytes) then Err Short
    else Ok (frame_len bytes)))

-- The segments of bytes in which the frame that stands first has this length: nothing stands after it, and its first
-- segment has the root pointer.
abbrev pub segments_in : List ℕ → Result ℕ FrameError → Result (List (List ℕ)) FrameError
segments_in bytes (Err fault) = Err fault
segments_in bytes (Ok len) =
    if nat_lt len (length bytes) then Err Trailing
    else (if slice_index (sizes_of bytes) 0 == 0 then Err NoRoot
    else Ok (content bytes))

-- The segments that the bytes spell, each the list of its words, or the first fault.
unfoldable pub segments_of : List ℕ → Result (List (List ℕ)) FrameError
segments_of bytes = segments_in bytes (first_len_of bytes)

-- Bytes that read so are one frame and nothing after it, whether or not its first segment has words.
abbrev pub IsOneFrame : Result (List (List ℕ)) FrameError → Type 0
IsOneFrame read = IsOk read ⊎ (read ≡ Err NoRoot)

-- the word at a place of a segment, both counted from 0
abbrev pub word_at : List (List ℕ) → ℕ → ℕ → Option ℕ
word_at segments segment index = slice_get (slice_index_or segments segment []) index

-- ---- from the writer's side

-- the words of a segment, in bytes
abbrev pub segment_bytes : List ℕ → List ℕ
segment_bytes words = flat_map (λ word. little_bytes 8 word) words

-- the number of segments minus one, and the size of each
abbrev pub table_bytes : List (List ℕ) → List ℕ
table_bytes segments = little_bytes 4 (length segments - 1) ++ flat_map (λ size. little_bytes 4 size) (map (λ words. length words) segments)

-- a segment whose size the table can say, of words of 64 bits
pub record IsSegment (words : List ℕ) : Type 0 where
  pub size : length words < 2 ^ 32
  pub words_fit : All (λ word. word < 2 ^ 64) words

-- The bytes spell the segments: some padding, whatever it is, leads from the table to the next word boundary, and
-- nothing stands after the last segment.
pub record Spells (bytes : List ℕ) (segments : List (List ℕ)) : Type 0 where
  pub padding : List ℕ
  pub parts : bytes ≡ table_bytes segments ++ padding ++ flat_map segment_bytes segments
  pub padding_short : length padding < 8
  pub on_boundary : (length (table_bytes segments) + length padding) % 8 ≡ 0
  pub some : 1 ≤ length segments
  pub not_too_many : length segments ≤ 512
  pub rooted : 1 ≤ length (slice_index_or segments 0 [])
  pub all_fit : All IsSegment segments
