-- A far pointer has the value of what its pad says.
use Rattle.std.proofs.Common.{◌≡◌, ℕ, ◌+◌, ◌<◌, true, false, List, length, Some, Result, Ok, refl, sym, ap, ◌∙◌, arith}
use Rattle.std.specs.Prelude.{slice_index}
use Rattle.std.proofs.lemmas.Bool.{lt-ltb}
use Rattle.std.proofs.lemmas.Option.{slice_get-get_or}
use Rattle.cap_reader.specs.declared.pointer.Pointer.{Pointer}
use Rattle.cap_reader.specs.declared.pointer.Pointer.TheVariants as pointers
use Rattle.cap_reader.specs.declared.pointee.Pointee.{Pointee}
use Rattle.cap_reader.specs.declared.pointee.Pointee.TheVariants as leads
use Rattle.cap_reader.specs.declared.read_error.ReadError.{ReadError}
use Rattle.cap_reader.specs.Pointers.{pointer_of, words_of, start_from, pointee_of, pad_word, word_there, content_in, pointee_by_tag, pointee_behind, pointee_at, ◌>>=◌}
use Rattle.cap_reader.specs.Tree.{tree_behind, structure_at, tree_at}
use Rattle.cap_reader.specs.Laws.{pointer_at, IsNear, PadOfOne, PadOfTwo, LooksLike, tagged_tree}

abbrev Lead : Type 0
Lead = Result Pointee ReadError

near_lands : (segments : List (List ℕ)) (segment at : ℕ) (pointer : Pointer) → IsNear pointer → pointee_behind segments segment at pointer ≡ pointee_of segment at pointer
unfolding pointee_behind
near_lands segments segment at pointers.Null near = refl
near_lands segments segment at (pointers.Struct offset data_words pointer_count) near = refl
near_lands segments segment at (pointers.List offset element_size count) near = refl
near_lands segments segment at (pointers.Far two_words offset far_segment) near = absurd near
near_lands segments segment at (pointers.Capability index) near = refl
near_lands segments segment at pointers.Reserved near = refl

pad_there : (segments : List (List ℕ)) (segment at : ℕ) → segment < length segments → at < length (words_of segments segment) → pad_word segments segment at ≡ Ok (slice_index (words_of segments segment) at)
unfolding pad_word
pad_there segments segment at lt there =
    rw (lt-ltb segment (length segments) lt) (ap word_there (slice_get-get_or (words_of segments segment) at 0 there))

-- ---- a pad of one word

by_pad : (segments : List (List ℕ)) (segment at pad_segment pad_at : ℕ) → pad_word segments pad_segment pad_at ≡ Ok (slice_index (words_of segments pad_segment) pad_at)
    → pointee_behind segments segment at (pointers.Far false pad_at pad_segment) ≡ pointee_of pad_segment pad_at (pointer_at segments pad_segment pad_at)
unfolding pointee_behind
by_pad segments segment at pad_segment pad_at e = ap (λ (pad : Result ℕ ReadError). pad >>= λ word. pointee_of pad_segment pad_at (pointer_of word)) e

by_one : (segments : List (List ℕ)) (segment at pad_segment pad_at : ℕ) → PadOfOne segments segment at pad_segment pad_at → pointee_at segments segment at ≡ pointee_at segments pad_segment pad_at
by_one segments segment at pad_segment pad_at pad =
    ap (pointee_behind segments segment at) pad.far
    ∙ by_pad segments segment at pad_segment pad_at (pad_there segments pad_segment pad_at pad.segment_there pad.word_there)
    ∙ sym (near_lands segments pad_segment pad_at (pointer_at segments pad_segment pad_at) pad.near)

-- ---- a pad of two words

inside : (segments : List (List ℕ)) (segment : ℕ) (pointee : Pointee) → segment < length segments → content_in segments segment pointee ≡ Ok pointee
inside segments segment pointee lt = rw (lt-ltb segment (length segments) lt) refl

tag_leads : (segments : List (List ℕ)) (content start near offset : ℕ) (tag pointer : Pointer) → content < length segments → LooksLike tag offset pointer → start_from near offset ≡ Some start
    → pointee_by_tag segments (pointers.Far false start content) tag ≡ pointee_behind segments content near pointer
unfolding pointee_by_tag pointee_behind pointee_of
tag_leads segments content start near offset pointers.Null pointer there same from =
    rw (same, from) (inside segments content (leads.Struct content (Some start) 0 0) there)
tag_leads segments content start near offset (pointers.Struct unread data_words pointer_count) pointer there same from =
    rw (same, from) (inside segments content (leads.Struct content (Some start) data_words pointer_count) there)
tag_leads segments content start near offset (pointers.List unread element_size count) pointer there same from =
    rw (same, from) (inside segments content (leads.List content (Some start) element_size count) there)
tag_leads segments content start near offset (pointers.Far two_words unread segment) pointer there same from = absurd same
tag_leads segments content start near offset (pointers.Capability index) pointer there same from = absurd same
tag_leads segments content start near offset pointers.Reserved pointer there same from = absurd same

both_words : (segments : List (List ℕ)) (segment at pad_segment pad_at first tag : ℕ) → pad_word segments pad_segment pad_at ≡ Ok first → pad_word segments pad_segment (pad_at + 1) ≡ Ok tag
    → pointee_behind segments segment at (pointers.Far true pad_at pad_segment) ≡ pointee_by_tag segments (pointer_of first) (pointer_of tag)
unfolding pointee_behind
both_words segments segment at pad_segment pad_at first tag e d =
    ap (λ (pad : Result ℕ ReadError). pad >>= λ word. pad_word segments pad_segment (pad_at + 1) >>= λ other. pointee_by_tag segments (pointer_of word) (pointer_of other)) e
    ∙ ap (λ (pad : Result ℕ ReadError). pad >>= λ other. pointee_by_tag segments (pointer_of first) (pointer_of other)) d

by_tag : (segments : List (List ℕ)) (segment at content start : ℕ) (tag : Pointer) → PadOfTwo segments segment at content start tag → pointee_at segments segment at ≡ pointee_by_tag segments (pointers.Far false start content) tag
by_tag segments segment at content start tag pad =
    let first = slice_index (words_of segments pad.pad_segment) pad.pad_at in
    let second = slice_index (words_of segments pad.pad_segment) (pad.pad_at + 1) in
    ap (pointee_behind segments segment at) pad.far
    ∙ both_words segments segment at pad.pad_segment pad.pad_at first second (pad_there segments pad.pad_segment pad.pad_at pad.segment_there (omega (arith, pad.words_there))) (pad_there segments pad.pad_segment (pad.pad_at + 1) pad.segment_there pad.words_there)
    ∙ ap (λ (p : Pointer). pointee_by_tag segments p (pointer_of second)) pad.first
    ∙ ap (pointee_by_tag segments (pointers.Far false start content)) pad.tagged

by_two : (segments : List (List ℕ)) (segment at content start : ℕ) (tag : Pointer) → PadOfTwo segments segment at content start tag → (near offset : ℕ) → LooksLike tag offset (pointer_at segments content near) → start_from near offset ≡ Some start
    → pointee_at segments segment at ≡ pointee_at segments content near
by_two segments segment at content start tag pad near offset same from =
    by_tag segments segment at content start tag pad ∙ tag_leads segments content start near offset tag (pointer_at segments content near) pad.content_there same from

pub tree_by_one : (segments : List (List ℕ)) (segment at pad_segment pad_at : ℕ) → PadOfOne segments segment at pad_segment pad_at → (depth : ℕ) → tree_at depth segments segment at ≡ tree_at depth segments pad_segment pad_at
tree_by_one segments segment at pad_segment pad_at pad depth =
    ap (λ (lead : Lead). tree_behind (structure_at depth segments) segments lead) (by_one segments segment at pad_segment pad_at pad)

pub tree_by_two : (segments : List (List ℕ)) (segment at content start : ℕ) (tag : Pointer) → PadOfTwo segments segment at content start tag → (near offset : ℕ) → LooksLike tag offset (pointer_at segments content near) → start_from near offset ≡ Some start
    → (depth : ℕ) → tree_at depth segments segment at ≡ tree_at depth segments content near
tree_by_two segments segment at content start tag pad near offset same from depth =
    ap (λ (lead : Lead). tree_behind (structure_at depth segments) segments lead) (by_two segments segment at content start tag pad near offset same from)

tag_is : (depth : ℕ) (segments : List (List ℕ)) (content start : ℕ) (tag : Pointer) → content < length segments
    → tree_behind (structure_at depth segments) segments (pointee_by_tag segments (pointers.Far false start content) tag) ≡ tagged_tree depth segments content start tag
unfolding pointee_by_tag tree_behind
tag_is depth segments content start pointers.Null there = rw (lt-ltb content (length segments) there) refl
tag_is depth segments content start (pointers.Struct unread data_words pointer_count) there = rw (lt-ltb content (length segments) there) refl
tag_is depth segments content start (pointers.List unread element_size count) there = rw (lt-ltb content (length segments) there) refl
tag_is depth segments content start (pointers.Far two_words unread segment) there = refl
tag_is depth segments content start (pointers.Capability index) there = refl
tag_is depth segments content start pointers.Reserved there = refl

pub tree_by_tag : (segments : List (List ℕ)) (segment at content start : ℕ) (tag : Pointer) → PadOfTwo segments segment at content start tag → (depth : ℕ) → tree_at depth segments segment at ≡ tagged_tree depth segments content start tag
tree_by_tag segments segment at content start tag pad depth =
    ap (λ (lead : Lead). tree_behind (structure_at depth segments) segments lead) (by_tag segments segment at content start tag pad) ∙ tag_is depth segments content start tag pad.content_there
