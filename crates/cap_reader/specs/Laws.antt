-- Laws: what holds of every frame and every reading by the definitions of the other files. `src/laws.rt` promises them,
-- and those on frames that are cut in other ways, of `specs/Cuts.antt`.
--
-- That a reading depends on nothing outside its frame is plain: a tree is a function of the lists of the words of the
-- frame's segments, and the calls' contracts speak of a frame by these alone. So two frames with the same segments read
-- the same, whatever their padding holds:
--     segments ≡ others → tree_at depth segments segment at ≡ tree_at depth others segment at
use Rattle.std.specs.Prelude.{◌≡◌, ℕ, ◌+◌, ◌<◌, true, false, List, length, map, Some, slice_index}
use Rattle.std.specs.List.{range_with_len, sum_by}
use Rattle.cap_reader.specs.declared.pointer.Pointer.{Pointer}
use Rattle.cap_reader.specs.declared.pointer.Pointer.TheVariants as pointers
use Rattle.cap_reader.specs.declared.read_error.ReadError.TheVariants.{BadPad}
use Rattle.cap_reader.specs.Pointers.{pointer_of, words_of, extent}
use Rattle.cap_reader.specs.Tree.{Tree, nothing, structure, bad_structure, composite, bad_composite, plain, bad_plain, capability, reserved, unfollowed, structure_there, list_there, structure_at}

-- ---- what is listed

abbrev pub path_of : List ℕ × ℕ → List ℕ
path_of entry = entry.0

-- the paths of what is listed
abbrev pub paths_of : List (List ℕ × ℕ) → List (List ℕ)
paths_of found = map path_of found

-- ---- what is paid

-- the sum, over the structs at and below a tree, through structs alone, of what goes by the size of a struct in words
unfoldable pub over_structs : (ℕ → ℕ) → Tree → ℕ
over_structs weight nothing = 0
over_structs weight (structure data_words word pointer_count child) =
    weight (data_words + pointer_count) + sum_by (λ n. over_structs weight (child n)) (range_with_len 0 pointer_count)
over_structs weight (bad_structure e) = 0
over_structs weight (composite count element) = 0
over_structs weight (bad_composite e) = 0
over_structs weight (plain element_size count word) = 0
over_structs weight (bad_plain element_size e) = 0
over_structs weight (capability index) = 0
over_structs weight reserved = 0
over_structs weight (unfollowed e) = 0

-- the words of these structs
abbrev pub struct_words : Tree → ℕ
struct_words tree = over_structs (λ size. size) tree

-- ---- pads

-- what the word at a place says as a pointer
abbrev pub pointer_at : List (List ℕ) → ℕ → ℕ → Pointer
pointer_at segments segment at = pointer_of (slice_index (words_of segments segment) at)

abbrev pub IsNear : Pointer → Type 0
IsNear pointers.Null = Unit {0}
IsNear (pointers.Struct offset data_words pointer_count) = Unit {0}
IsNear (pointers.List offset element_size count) = Unit {0}
IsNear (pointers.Far two_words offset segment) = ⊥
IsNear (pointers.Capability index) = Unit {0}
IsNear pointers.Reserved = Unit {0}

-- A far pointer leads to a pad of one word, which is there and "is normally just another pointer".
pub record PadOfOne (segments : List (List ℕ)) (segment at pad_segment pad_at : ℕ) : Type 0 where
  pub far : pointer_at segments segment at ≡ pointers.Far false pad_at pad_segment
  pub segment_there : pad_segment < length segments
  pub word_there : pad_at < length (words_of segments pad_segment)
  pub near : IsNear (pointer_at segments pad_segment pad_at)

-- A far pointer leads to a pad of two words, which are there: the first leads to the start of the content, the second
-- is the tag.
pub record PadOfTwo (segments : List (List ℕ)) (segment at content start : ℕ) (tag : Pointer) : Type 0 where
  pub pad_segment : ℕ
  pub pad_at : ℕ
  pub far : pointer_at segments segment at ≡ pointers.Far true pad_at pad_segment
  pub segment_there : pad_segment < length segments
  pub words_there : pad_at + 1 < length (words_of segments pad_segment)
  pub first : pointer_at segments pad_segment pad_at ≡ pointers.Far false start content
  pub tagged : pointer_at segments pad_segment (pad_at + 1) ≡ tag
  pub content_there : content < length segments

-- "The tag word looks exactly like an intra-segment pointer to the target object would look", but for its offset: what
-- such a pointer says with this offset. A tag of all zeros is an empty struct's.
abbrev pub LooksLike : Pointer → ℕ → Pointer → Type 0
LooksLike pointers.Null offset pointer = pointer ≡ pointers.Struct offset 0 0
LooksLike (pointers.Struct unread data_words pointer_count) offset pointer = pointer ≡ pointers.Struct offset data_words pointer_count
LooksLike (pointers.List unread element_size count) offset pointer = pointer ≡ pointers.List offset element_size count
LooksLike (pointers.Far two_words unread segment) offset pointer = ⊥
LooksLike (pointers.Capability index) offset pointer = ⊥
LooksLike pointers.Reserved offset pointer = ⊥

-- What stands at the start of the content, by the tag: a struct or a list there, whatever the tag's own offset is.
abbrev pub tagged_tree : ℕ → List (List ℕ) → ℕ → ℕ → Pointer → Tree
tagged_tree depth segments content start pointers.Null =
    structure_there (λ at. structure_at depth segments content at 0 0) (extent segments content (Some start) 0)
tagged_tree depth segments content start (pointers.Struct unread data_words pointer_count) =
    structure_there (λ at. structure_at depth segments content at data_words pointer_count) (extent segments content (Some start) (data_words + pointer_count))
tagged_tree depth segments content start (pointers.List unread element_size count) =
    list_there (structure_at depth segments content) segments content (Some start) element_size count
tagged_tree depth segments content start (pointers.Far two_words unread segment) = unfollowed BadPad
tagged_tree depth segments content start (pointers.Capability index) = unfollowed BadPad
tagged_tree depth segments content start pointers.Reserved = unfollowed BadPad
