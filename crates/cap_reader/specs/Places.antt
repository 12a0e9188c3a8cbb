-- What stands at the places that a reader carries about, in the frame with these segments.
use Rattle.std.specs.Prelude.{ℕ, ◌+◌, ◌*◌, ◌/◌, ◌%◌, ◌^◌, ◌==◌, Bool, List, nat_lt, if◌then◌else◌}
use Rattle.cap_reader.specs.declared.place.StructAt.{StructAt}
use Rattle.cap_reader.specs.declared.place.ListAt.{ListAt}
use Rattle.cap_reader.specs.declared.text.TextAt.{TextAt}
use Rattle.cap_reader.specs.Pointers.{words_at}
use Rattle.cap_reader.specs.Tree.{Tree, nothing, tree_at, structure_at, plain_words}
use Rattle.cap_reader.specs.Reading.{Sections, Elements, bytes_in}

-- the tree at a pointer of a struct; what a shorter struct lacks is null
abbrev pub child_at : List (List ℕ) → StructAt → ℕ → Tree
child_at segments place n = if nat_lt n place.pointer_count then tree_at place.below segments place.segment (place.start + place.data_words + n) else nothing

-- a word of a struct's data section; what a shorter struct lacks is 0
abbrev pub data_at : List (List ℕ) → StructAt → ℕ → ℕ
data_at segments place i = words_at segments place.segment place.start place.data_words i

-- the sections of a struct
abbrev pub sections_at : List (List ℕ) → StructAt → Sections
sections_at segments place = record {
  data_words = place.data_words;
  word = data_at segments place;
  pointer_count = place.pointer_count;
  child = child_at segments place;
}

-- how many elements a list has
abbrev pub list_len : ListAt → ℕ
list_len list = list.count

-- the tree of an element of a list
abbrev pub element_at : List (List ℕ) → ListAt → ℕ → Tree
element_at segments list i =
    if nat_lt i list.count
    then structure_at list.depth segments list.segment (list.start + i * (list.data_words + list.pointer_count)) list.data_words list.pointer_count
    else nothing

-- the elements of a list
abbrev pub elements_at : List (List ℕ) → ListAt → Elements
elements_at segments list = record { count = list_len list; element = element_at segments list }

-- the bytes of a text without the zero behind them
abbrev pub text_at : List (List ℕ) → TextAt → List ℕ
text_at segments text = bytes_in text.len (words_at segments text.segment text.start (plain_words 2 (text.len + 1)))

-- ---- numbers of a data section, given its words, at a byte that is a multiple of their length; a Bool at a bit. A field
-- with another default than 0 is stored as the exclusive or with it ("Default Values").

abbrev pub u16_in : ℕ → (ℕ → ℕ) → ℕ
u16_in byte word = (word (byte / 8) / 2 ^ (8 * (byte % 8))) % 2 ^ 16

abbrev pub u32_in : ℕ → (ℕ → ℕ) → ℕ
u32_in byte word = (word (byte / 8) / 2 ^ (8 * (byte % 8))) % 2 ^ 32

abbrev pub u64_in : ℕ → (ℕ → ℕ) → ℕ
u64_in byte word = word (byte / 8)

abbrev pub bit_in : ℕ → (ℕ → ℕ) → Bool
bit_in bit word = (word (bit / 64) / 2 ^ (bit % 64)) % 2 == 1
