-- What a pointer's word says, and what it leads to (Cap'n Proto encoding specification, "Structs", "Lists",
-- "Inter-Segment Pointers", "Capabilities"). A word is a number below 2^64, a segment the list of its words; segments
-- and places in them are counted from 0.
use Rattle.std.specs.Prelude.{ℕ, ◌+◌, ◌-◌, ◌/◌, ◌%◌, ◌^◌, ◌==◌, Bool, true, false, ◌&&◌, List, [], length, Option, Some, None, Result, Ok, Err, nat_lt, nat_le, if◌then◌else◌, slice_index, slice_index_or}
use Rattle.cap_frame.specs.Segments.{word_at}
use Rattle.cap_reader.specs.declared.pointer.Pointer.{Pointer}
use Rattle.cap_reader.specs.declared.pointer.Pointer.TheVariants as pointers
use Rattle.cap_reader.specs.declared.pointee.Pointee.{Pointee}
use Rattle.cap_reader.specs.declared.pointee.Pointee.TheVariants as leads
use Rattle.cap_reader.specs.declared.read_error.ReadError.{ReadError}
use Rattle.cap_reader.specs.declared.read_error.ReadError.TheVariants.{OutOfSegment, NoSegment, BadPad}

-- ---- words

-- Bits 2 to 31: in a struct or list pointer how many words lie between its own end and what it points to, in the tag
-- word of a composite list how many elements there are.
abbrev pub offset_bits : ℕ → ℕ
offset_bits word = (word / 4) % 2 ^ 30

-- the sizes of a struct's data section and pointer section, in words
abbrev pub data_bits : ℕ → ℕ
data_bits word = (word / 2 ^ 32) % 2 ^ 16

abbrev pub pointer_bits : ℕ → ℕ
pointer_bits word = (word / 2 ^ 48) % 2 ^ 16

-- bits 32 to 63
abbrev pub high_bits : ℕ → ℕ
high_bits word = (word / 2 ^ 32) % 2 ^ 32

-- "A (2 bits) = 0, to indicate that this is a struct pointer", 1 a list pointer, 2 a far pointer, 3 "other", of which
-- "B (30 bits) = 0, to indicate this is a capability". A pointer of all zeros is null.
unfoldable pub pointer_of : ℕ → Pointer
pointer_of word =
    if word == 0 then pointers.Null
    else (if word % 4 == 0 then pointers.Struct (offset_bits word) (data_bits word) (pointer_bits word)
    else (if word % 4 == 1 then pointers.List (offset_bits word) ((word / 2 ^ 32) % 8) ((word / 2 ^ 35) % 2 ^ 29)
    else (if word % 4 == 2 then pointers.Far ((word / 4) % 2 == 1) ((word / 8) % 2 ^ 29) (high_bits word)
    else (if offset_bits word == 0 then pointers.Capability (high_bits word)
    else pointers.Reserved))))

-- ---- places

-- the words of a segment; a segment that isn't there has none
abbrev pub words_of : List (List ℕ) → ℕ → List ℕ
words_of segments segment = slice_index_or segments segment []

-- Of a part of a segment, which begins at a word and has so many, the word at a place; what isn't of the part is 0.
abbrev pub words_at : List (List ℕ) → (segment start size : ℕ) → ℕ → ℕ
words_at segments segment start size i = if nat_lt i size then slice_index (words_of segments segment) (start + i) else 0

-- "Offset, in words, from the end of the pointer to the start": signed, so from 2^29 on it is 2^30 less. None stands
-- for a start before the segment.
unfoldable pub start_from : ℕ → ℕ → Option ℕ
start_from at offset =
    if nat_lt offset (2 ^ 29) then Some (at + 1 + offset)
    else (if nat_lt (at + 1 + offset) (2 ^ 30) then None
    else Some (at + 1 + offset - 2 ^ 30))

-- whether the segment is there and has so many words
abbrev pub has_words : List (List ℕ) → ℕ → ℕ → Bool
has_words segments segment count = nat_lt segment (length segments) && nat_le count (length (words_of segments segment))

-- the start, where so many words from it on lie in the segment
unfoldable pub extent : List (List ℕ) → ℕ → Option ℕ → ℕ → Option ℕ
extent segments segment None size = None
extent segments segment (Some start) size = if has_words segments segment (start + size) then Some start else None

-- ---- following pads

infixl 10 ◌>>=◌
abbrev pub ◌>>=◌ : {A B : Type 0} → Result A ReadError → (A → Result B ReadError) → Result B ReadError
(Ok x) >>= f = f x
(Err e) >>= f = Err e

-- what a pointer that isn't far says, where it stands itself
unfoldable pub pointee_of : ℕ → ℕ → Pointer → Result Pointee ReadError
pointee_of segment at pointers.Null = Ok leads.Null
pointee_of segment at (pointers.Struct offset data_words pointer_count) = Ok (leads.Struct segment (start_from at offset) data_words pointer_count)
pointee_of segment at (pointers.List offset element_size count) = Ok (leads.List segment (start_from at offset) element_size count)
pointee_of segment at (pointers.Far two_words offset far_segment) = Err BadPad
pointee_of segment at (pointers.Capability index) = Ok (leads.Capability index)
pointee_of segment at pointers.Reserved = Ok leads.Reserved

abbrev pub word_there : Option ℕ → Result ℕ ReadError
word_there None = Err OutOfSegment
word_there (Some word) = Ok word

-- a word of a landing pad, "the target segment" first
unfoldable pub pad_word : List (List ℕ) → ℕ → ℕ → Result ℕ ReadError
pad_word segments segment at = if nat_lt segment (length segments) then word_there (word_at segments segment at) else Err NoSegment

-- content in a segment that has to be there
abbrev pub content_in : List (List ℕ) → ℕ → Pointee → Result Pointee ReadError
content_in segments segment pointee = if nat_lt segment (length segments) then Ok pointee else Err NoSegment

-- "the landing pad is itself another far pointer that is interpreted differently: This far pointer (which always has B
-- = 0) points to the start of the object's content, located in some other segment. The landing pad is itself
-- immediately followed by a tag word. The tag word looks exactly like an intra-segment pointer to the target object
-- would look, except that the offset is always zero." The offset isn't read here, and a tag of all zeros is an empty
-- struct.
unfoldable pub pointee_by_tag : List (List ℕ) → Pointer → Pointer → Result Pointee ReadError
pointee_by_tag segments (pointers.Far false offset segment) pointers.Null = content_in segments segment (leads.Struct segment (Some offset) 0 0)
pointee_by_tag segments (pointers.Far false offset segment) (pointers.Struct unread data_words pointer_count) = content_in segments segment (leads.Struct segment (Some offset) data_words pointer_count)
pointee_by_tag segments (pointers.Far false offset segment) (pointers.List unread element_size count) = content_in segments segment (leads.List segment (Some offset) element_size count)
pointee_by_tag segments first tag = Err BadPad

-- "If B == 0, then the landing pad of a far pointer is normally just another pointer"; else it has two words.
unfoldable pub pointee_behind : List (List ℕ) → ℕ → ℕ → Pointer → Result Pointee ReadError
pointee_behind segments segment at (pointers.Far false offset far_segment) = do
  pad ← pad_word segments far_segment offset
  pointee_of far_segment offset (pointer_of pad)
pointee_behind segments segment at (pointers.Far true offset far_segment) = do
  first ← pad_word segments far_segment offset
  tag ← pad_word segments far_segment (offset + 1)
  pointee_by_tag segments (pointer_of first) (pointer_of tag)
pointee_behind segments segment at pointer = pointee_of segment at pointer

-- what the pointer at a place leads to, or why its pads can't be followed
abbrev pub pointee_at : List (List ℕ) → ℕ → ℕ → Result Pointee ReadError
pointee_at segments segment at = pointee_behind segments segment at (pointer_of (slice_index (words_of segments segment) at))
