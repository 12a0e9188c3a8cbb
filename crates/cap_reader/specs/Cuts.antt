-- Frames whose pointers correspond: one frame's content lies elsewhere in the other, behind pads or not. `src/laws.rt`
-- promises that pointers that correspond have the same value, however each frame is cut into segments.
use Rattle.std.specs.Prelude.{◌≡◌, ℕ, ◌+◌, ◌*◌, ◌<◌, ◌==◌, Bool, true, List, Option, Some, None, Result, Ok, Err, slice_index, [], ◌∷◌}
use Rattle.std.specs.Bool.{MatchBool}
use Rattle.cap_reader.specs.declared.pointee.Pointee.{Pointee}
use Rattle.cap_reader.specs.declared.pointee.Pointee.TheVariants as leads
use Rattle.cap_reader.specs.declared.read_error.ReadError.{ReadError}
use Rattle.cap_reader.specs.Pointers.{offset_bits, data_bits, pointer_bits, words_of, has_words, extent, pointee_at}
use Rattle.cap_reader.specs.Tree.{plain_words}

-- a pointer's place in the one frame and one in the other, each a segment and a place in it
abbrev pub Pairs : Type 0
Pairs = ℕ → ℕ → ℕ → ℕ → Bool

-- the same words, so many from two places on
abbrev pub SameWords : List (List ℕ) → List (List ℕ) → (segment other_segment start other_start size : ℕ) → Type 0
SameWords one other segment other_segment start other_start size =
    (i : ℕ) → i < size → slice_index (words_of one segment) (start + i) ≡ slice_index (words_of other other_segment) (other_start + i)

-- two structs of the same sizes: the same data, and pointers that correspond
abbrev pub SameContent : Pairs → List (List ℕ) → List (List ℕ) → (segment other_segment start other_start data_words pointer_count : ℕ) → Type 0
SameContent pairs one other segment other_segment start other_start data_words pointer_count =
    SameWords one other segment other_segment start other_start data_words
    × ((n : ℕ) → n < pointer_count → pairs segment (start + data_words + n) other_segment (other_start + data_words + n) ≡ true)

-- two composite lists, from their tags on: the same tag, and elements that are the same
abbrev pub SameElements : Pairs → List (List ℕ) → List (List ℕ) → (segment other_segment size tag_at other_tag_at : ℕ) → Type 0
SameElements pairs one other segment other_segment size tag_at other_tag_at =
    let tag = slice_index (words_of one segment) tag_at in
    let element_size = data_bits tag + pointer_bits tag in
    (tag ≡ slice_index (words_of other other_segment) other_tag_at)
    × (has_words one segment (tag_at + 1 + size) ≡ has_words other other_segment (other_tag_at + 1 + size))
    × ((k : ℕ) → k < offset_bits tag → SameContent pairs one other segment other_segment (tag_at + 1 + k * element_size) (other_tag_at + 1 + k * element_size) (data_bits tag) (pointer_bits tag))

-- two starts whose extents lie in their segments, and are the same, or two that don't
abbrev pub SameExtents : (ℕ → ℕ → Type 0) → Option ℕ → Option ℕ → Type 0
SameExtents Same None None = Unit {0}
SameExtents Same None (Some other) = ⊥
SameExtents Same (Some start) None = ⊥
SameExtents Same (Some start) (Some other) = Same start other

abbrev pub SameLists : Pairs → List (List ℕ) → List (List ℕ) → (segment other_segment : ℕ) (start other_start : Option ℕ) (element_size count : ℕ) → Type 0
SameLists pairs one other segment other_segment start other_start element_size count =
    MatchBool (element_size == 7)
    (SameExtents (SameElements pairs one other segment other_segment count) (extent one segment start 1) (extent other other_segment other_start 1))
    (SameExtents (λ here there. SameWords one other segment other_segment here there (plain_words element_size count)) (extent one segment start (plain_words element_size count)) (extent other other_segment other_start (plain_words element_size count)))

-- what two pointers lead to, their pads followed
abbrev pub SamePointees : Pairs → List (List ℕ) → List (List ℕ) → Result Pointee ReadError → Result Pointee ReadError → Type 0
SamePointees pairs one other (Err e) (Err d) = e ≡ d
SamePointees pairs one other (Ok leads.Null) (Ok leads.Null) = Unit {0}
SamePointees pairs one other (Ok (leads.Struct segment start data_words pointer_count)) (Ok (leads.Struct other_segment other_start other_data_words other_pointer_count)) =
    (data_words ≡ other_data_words) × (pointer_count ≡ other_pointer_count)
    × SameExtents (λ here there. SameContent pairs one other segment other_segment here there data_words pointer_count) (extent one segment start (data_words + pointer_count)) (extent other other_segment other_start (data_words + pointer_count))
SamePointees pairs one other (Ok (leads.List segment start element_size count)) (Ok (leads.List other_segment other_start other_element_size other_count)) =
    (element_size ≡ other_element_size) × (count ≡ other_count)
    × SameLists pairs one other segment other_segment start other_start element_size count
SamePointees pairs one other (Ok (leads.Capability index)) (Ok (leads.Capability other_index)) = index ≡ other_index
SamePointees pairs one other (Ok leads.Reserved) (Ok leads.Reserved) = Unit {0}
SamePointees pairs one other here there = ⊥

-- pointers that correspond lead to the same, in which pointers correspond again
abbrev pub Correspond : Pairs → List (List ℕ) → List (List ℕ) → Type 0
Correspond pairs one other =
    (segment at other_segment other_at : ℕ) → pairs segment at other_segment other_at ≡ true → SamePointees pairs one other (pointee_at one segment at) (pointee_at other other_segment other_at)

-- ---- one frame cut in two ways: a Release of the export 3, two times

abbrev pub release_whole : List (List ℕ)
release_whole = (0x0001_0001_0000_0000 ∷ 6 ∷ 0x0000_0001_0000_0000 ∷ 0x0000_0002_0000_0003 ∷ []) ∷ []

-- the message in a second segment, its pad behind it, and the body in the first, behind its pad
abbrev pub release_cut : List (List ℕ)
release_cut = (0x0000_0001_0000_0012 ∷ 0x0000_0001_0000_0000 ∷ 0x0000_0002_0000_0003 ∷ []) ∷ (6 ∷ 0x0000_0000_0000_000a ∷ 0x0001_0001_ffff_fff4 ∷ []) ∷ []
