-- The whole value at a pointer: the encoding specification's tree of objects, over all segments.
use Rattle.std.specs.Prelude.{ℕ, zero, suc, ◌+◌, ◌*◌, ◌/◌, ◌%◌, ◌==◌, List, Option, Some, None, Result, Ok, Err, nat_lt, nat_le, ◌&&◌, if◌then◌else◌, slice_index}
use Rattle.cap_reader.specs.declared.pointee.Pointee.{Pointee}
use Rattle.cap_reader.specs.declared.pointee.Pointee.TheVariants as leads
use Rattle.cap_reader.specs.declared.read_error.ReadError.{ReadError}
use Rattle.cap_reader.specs.declared.read_error.ReadError.TheVariants.{OutOfSegment, WrongKind, TooDeep}
use Rattle.cap_reader.specs.Pointers.{offset_bits, data_bits, pointer_bits, words_of, words_at, has_words, extent, pointee_at}

-- What stands at a pointer. A struct: the size and words of its data section, then the size and subtrees of its pointer
-- section. A list of structs: how many elements it has, and the tree of each. Any other list: its element size, how many
-- elements it has, and the words in which they lie.
-- What is bad is bad in one way; an unfollowed pointer is one whose pads can't be followed.
pub data Tree : Type 0 where
  nothing : Tree
  structure : ℕ → (ℕ → ℕ) → ℕ → (ℕ → Tree) → Tree
  bad_structure : ReadError → Tree
  composite : ℕ → (ℕ → Tree) → Tree
  bad_composite : ReadError → Tree
  plain : ℕ → ℕ → (ℕ → ℕ) → Tree
  bad_plain : ℕ → ReadError → Tree
  capability : ℕ → Tree
  reserved : Tree
  unfollowed : ReadError → Tree

-- the struct whose extent was found, given the struct at a place
abbrev pub structure_there : (ℕ → Tree) → Option ℕ → Tree
structure_there structure_of None = bad_structure OutOfSegment
structure_there structure_of (Some start) = structure_of start

-- "the tag word ... has the same layout as a struct pointer, except that the pointer offset (B) instead indicates the
-- number of elements in the list". The elements stand behind it one after another, in so many words as the list's
-- pointer says.
unfoldable pub elements_behind : (ℕ → ℕ → ℕ → Tree) → List (List ℕ) → ℕ → ℕ → ℕ → Tree
elements_behind structure_of segments segment size tag_at =
    let tag = slice_index (words_of segments segment) tag_at in
    let element_size = data_bits tag + pointer_bits tag in
    if tag % 4 == 0
    then (if has_words segments segment (tag_at + 1 + size) && nat_le (offset_bits tag * element_size) size
    then composite (offset_bits tag)
    (λ i. if nat_lt i (offset_bits tag) then structure_of (tag_at + 1 + i * element_size) (data_bits tag) (pointer_bits tag) else nothing)
    else bad_composite OutOfSegment)
    else bad_composite WrongKind

-- the list of structs whose tag was looked for
abbrev pub composite_there : (ℕ → ℕ → ℕ → Tree) → List (List ℕ) → ℕ → ℕ → Option ℕ → Tree
composite_there structure_of segments segment size None = bad_composite OutOfSegment
composite_there structure_of segments segment size (Some tag_at) = elements_behind structure_of segments segment size tag_at

-- "C (3 bits) = Size of each element": 0 is nothing, 1 one bit, 2 one byte, 3 two, 4 four, 5 eight bytes, 6 a pointer
abbrev pub element_bits : ℕ → ℕ
element_bits element_size =
    if element_size == 0 then 0
    else (if element_size == 1 then 1
    else (if element_size == 2 then 8
    else (if element_size == 3 then 16
    else (if element_size == 4 then 32
    else 64))))

-- the words of a list that isn't composite: its elements are "tightly-packed", up to the next word boundary
abbrev pub plain_words : ℕ → ℕ → ℕ
plain_words element_size count = (count * element_bits element_size + 63) / 64

-- a list that isn't composite, whose extent was looked for
abbrev pub plain_there : List (List ℕ) → (segment element_size count : ℕ) → Option ℕ → Tree
plain_there segments segment element_size count None = bad_plain element_size OutOfSegment
plain_there segments segment element_size count (Some start) = plain element_size count (words_at segments segment start (plain_words element_size count))

-- the list to which a list pointer leads, given the struct at a place with its two sizes; element size 7 is composite
unfoldable pub list_there : (ℕ → ℕ → ℕ → Tree) → List (List ℕ) → ℕ → Option ℕ → ℕ → ℕ → Tree
list_there structure_of segments segment start element_size count =
    if element_size == 7 then composite_there structure_of segments segment count (extent segments segment start 1)
    else plain_there segments segment element_size count (extent segments segment start (plain_words element_size count))

-- what a pointer leads to, given the struct at a place of a segment with its two sizes
unfoldable pub tree_behind : (ℕ → ℕ → ℕ → ℕ → Tree) → List (List ℕ) → Result Pointee ReadError → Tree
tree_behind structure_of segments (Err e) = unfollowed e
tree_behind structure_of segments (Ok leads.Null) = nothing
tree_behind structure_of segments (Ok (leads.Struct segment start data_words pointer_count)) =
    structure_there (λ at. structure_of segment at data_words pointer_count) (extent segments segment start (data_words + pointer_count))
tree_behind structure_of segments (Ok (leads.List segment start element_size count)) = list_there (structure_of segment) segments segment start element_size count
tree_behind structure_of segments (Ok (leads.Capability index)) = capability index
tree_behind structure_of segments (Ok leads.Reserved) = reserved

-- The struct at a place with so many data words and pointers, where so many more structs may stand within one another:
-- the data section first, then the pointer section.
unfoldable pub structure_at : ℕ → List (List ℕ) → ℕ → ℕ → ℕ → ℕ → Tree
structure_at zero segments segment start data_words pointer_count = bad_structure TooDeep
structure_at (suc depth) segments segment start data_words pointer_count =
    structure data_words (words_at segments segment start data_words) pointer_count
    (λ n. if nat_lt n pointer_count
    then tree_behind (structure_at depth segments) segments (pointee_at segments segment (start + data_words + n))
    else nothing)

-- the value at the pointer at a place, where so many structs may stand within one another
abbrev pub tree_at : ℕ → List (List ℕ) → ℕ → ℕ → Tree
tree_at depth segments segment at = tree_behind (structure_at depth segments) segments (pointee_at segments segment at)

-- "The first word of the first segment of the message is always a pointer pointing to the message's root struct"
abbrev pub root_tree : ℕ → List (List ℕ) → Tree
root_tree depth segments = tree_at depth segments 0 0
