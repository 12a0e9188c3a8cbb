-- No fault of pointers is out of memory.
use Rattle.std.proofs.Common.{◌≡◌, ℕ, zero, suc, ◌+◌, ◌-◌, inl, inr, Bool, true, false, cond, List, [], ◌∷◌, ◌++◌, Option, Some, None, Result, Ok, Err, subst}
use Rattle.std.specs.Prelude.{nat_lt}
use Rattle.std.proofs.lemmas.Bool.{cases_lt, cases_eq, lt-ltb, le-ltb, eq-eqb, ne_eqb}
use Rattle.cap_reader.specs.declared.pointee.Pointee.{Pointee}
use Rattle.cap_reader.specs.declared.pointee.Pointee.TheVariants as leads
use Rattle.cap_reader.specs.declared.pointer.Pointer.{Pointer}
use Rattle.cap_reader.specs.declared.pointer.Pointer.TheVariants as pointers
use Rattle.cap_reader.specs.declared.read_error.ReadError.{ReadError}
use Rattle.cap_reader.specs.declared.read_error.ReadError.TheVariants as errors
use Rattle.cap_frame.specs.Segments.{word_at}
use Rattle.cap_reader.specs.Pointers.{extent, pointer_of, word_there, pad_word, pointee_of, content_in, pointee_by_tag, pointee_behind, pointee_at, ◌>>=◌}
use Rattle.cap_reader.specs.Tree.{Tree, nothing, composite, bad_composite, structure_there, list_there, composite_there, plain_there, plain_words, elements_behind, tree_behind, structure_at, tree_at}
use Rattle.cap_reader.specs.Reading.{Reading, done, fault, visit, and_then, pay_for, run, each, structure_in, elements_in, text_in, text_of, byte_in}
use Rattle.cap_reader.specs.Fields.{fields_in}
use Rattle.cap_reader.proofs.Texts.{structure_is_no_text, list_is_no_text}

-- any error but out of memory
abbrev IsFault : ReadError → Type 0
IsFault errors.OutOfMemory = ⊥
IsFault errors.OutOfSegment = Unit {0}
IsFault errors.NoSegment = Unit {0}
IsFault errors.BadPad = Unit {0}
IsFault errors.WrongKind = Unit {0}
IsFault errors.NoZero = Unit {0}
IsFault errors.Reserved = Unit {0}
IsFault errors.TooDeep = Unit {0}
IsFault errors.TooMuch = Unit {0}

-- ---- following pads

abbrev Fine : {A : Type 0} → Result A ReadError → Type 0
Fine (Ok x) = Unit {0}
Fine (Err e) = IsFault e

fine_choice : {A : Type 0} (b : Bool) (x y : Result A ReadError) → Fine x → Fine y → Fine (cond b x y)
fine_choice true x y p q = p
fine_choice false x y p q = q

fine_then : {A B : Type 0} (x : Result A ReadError) (f : A → Result B ReadError) → Fine x → ((a : A) → Fine (f a)) → Fine (x >>= f)
fine_then (Ok a) f p q = q a
fine_then (Err e) f p q = p

fine_word : (found : Option ℕ) → Fine (word_there found)
fine_word None = tt
fine_word (Some word) = tt

fine_pad : (segments : List (List ℕ)) (segment at : ℕ) → Fine (pad_word segments segment at)
unfolding pad_word
fine_pad segments segment at = fine_choice _ (word_there (word_at segments segment at)) (Err errors.NoSegment) (fine_word (word_at segments segment at)) tt

fine_pointee : (segment at : ℕ) (pointer : Pointer) → Fine (pointee_of segment at pointer)
unfolding pointee_of
fine_pointee segment at pointers.Null = tt
fine_pointee segment at (pointers.Struct offset data_words pointer_count) = tt
fine_pointee segment at (pointers.List offset element_size count) = tt
fine_pointee segment at (pointers.Far two_words offset far_segment) = tt
fine_pointee segment at (pointers.Capability index) = tt
fine_pointee segment at pointers.Reserved = tt

fine_content : (segments : List (List ℕ)) (segment : ℕ) (pointee : Pointee) → Fine (content_in segments segment pointee)
fine_content segments segment pointee = fine_choice _ (Ok pointee) (Err errors.NoSegment) tt tt

fine_tagged : (segments : List (List ℕ)) (first tag : Pointer) → Fine (pointee_by_tag segments first tag)
unfolding pointee_by_tag
fine_tagged segments (pointers.Far false offset segment) pointers.Null = fine_content segments segment _
fine_tagged segments (pointers.Far false offset segment) (pointers.Struct unread data_words pointer_count) = fine_content segments segment _
fine_tagged segments (pointers.Far false offset segment) (pointers.List unread element_size count) = fine_content segments segment _
fine_tagged segments (pointers.Far false offset segment) (pointers.Far two_words unread far_segment) = tt
fine_tagged segments (pointers.Far false offset segment) (pointers.Capability index) = tt
fine_tagged segments (pointers.Far false offset segment) pointers.Reserved = tt
fine_tagged segments (pointers.Far true offset segment) tag = tt
fine_tagged segments pointers.Null tag = tt
fine_tagged segments (pointers.Struct offset data_words pointer_count) tag = tt
fine_tagged segments (pointers.List offset element_size count) tag = tt
fine_tagged segments (pointers.Capability index) tag = tt
fine_tagged segments pointers.Reserved tag = tt

fine_landed : (segments : List (List ℕ)) (segment at : ℕ) (pointer : Pointer) → Fine (pointee_behind segments segment at pointer)
unfolding pointee_behind
fine_landed segments segment at (pointers.Far false offset far_segment) =
    fine_then (pad_word segments far_segment offset) _ (fine_pad segments far_segment offset) (λ pad. fine_pointee far_segment offset (pointer_of pad))
fine_landed segments segment at (pointers.Far true offset far_segment) =
    fine_then (pad_word segments far_segment offset) _ (fine_pad segments far_segment offset) (λ first.
    fine_then (pad_word segments far_segment (offset + 1)) _ (fine_pad segments far_segment (offset + 1)) (λ tag. fine_tagged segments (pointer_of first) (pointer_of tag)))
fine_landed segments segment at pointers.Null = fine_pointee segment at pointers.Null
fine_landed segments segment at (pointers.Struct offset data_words pointer_count) = fine_pointee segment at (pointers.Struct offset data_words pointer_count)
fine_landed segments segment at (pointers.List offset element_size count) = fine_pointee segment at (pointers.List offset element_size count)
fine_landed segments segment at (pointers.Capability index) = fine_pointee segment at (pointers.Capability index)
fine_landed segments segment at pointers.Reserved = fine_pointee segment at pointers.Reserved

-- ---- readings

unfoldable Free : {A : Type 0} → Reading ReadError A → Type 0
Free (done value) = Unit {0}
Free (fault e) = IsFault e
Free (visit cost rest) = Free rest

free_then : {A B : Type 0} (reading : Reading ReadError A) (next : A → Reading ReadError B) → Free reading → ((a : A) → Free (next a)) → Free (and_then reading next)
unfolding Free and_then
free_then (done value) next p q = q value
free_then (fault e) next p q = p
free_then (visit cost rest) next p q = free_then rest next p q

free_each : {A : Type 0} (f : ℕ → Reading ReadError (List A)) → ((n : ℕ) → Free (f n)) → (n from : ℕ) → Free (each f from n)
unfolding Free each
free_each f p zero from = tt
free_each f p (suc n) from = free_then (f from) _ (p from) (λ first. free_then (each f (from + 1) n) _ (free_each f p n (from + 1)) (λ others. tt))

ran_fine : {A : Type 0} (reading : Reading ReadError A) (words : ℕ) → Free reading → Fine (run reading words).0
unfolding Free pay_for
ran_fine (done value) words p = tt
ran_fine (fault e) words p = p
ran_fine (visit cost rest) words p =
    elim (cases_lt words cost) [
      | inl few ↦ rw (lt-ltb words cost few) tt
      | inr enough ↦ rw (le-ltb words cost enough) (ran_fine rest (words - cost) p)
    ]

wants_none : {A : Type 0} (reading : Reading ReadError A) (words : ℕ) → Free reading → (run reading words).0 ≡ Err errors.OutOfMemory → ⊥
wants_none {A} reading words p h = let P : Result A ReadError → Type 0 = λ r. Fine r in subst P h (ran_fine reading words p)

-- ---- trees

abbrev IsFree : Tree → Type 0
IsFree tree = Free (structure_in tree) × Free (elements_in tree) × ((path : List ℕ) → Free (fields_in path tree))

free_choice : (b : Bool) (x y : Tree) → IsFree x → IsFree y → IsFree (cond b x y)
free_choice true x y p q = p
free_choice false x y p q = q

free_composite : (n : ℕ) (g : ℕ → Tree) → IsFree (composite n g)
unfolding Free fields_in
free_composite n g = (tt, tt, λ path. tt)

free_bad_composite : (e : ReadError) → IsFault e → IsFree (bad_composite e)
unfolding Free fields_in
free_bad_composite e p = (tt, p, λ path. p)

free_composite_there : (made : ℕ → ℕ → ℕ → Tree) (segments : List (List ℕ)) (segment size : ℕ) (place : Option ℕ) → IsFree (composite_there made segments segment size place)
unfolding elements_behind
free_composite_there made segments segment size None = free_bad_composite errors.OutOfSegment tt
free_composite_there made segments segment size (Some tag_at) =
    free_choice _ _ _ (free_choice _ _ _ (free_composite _ _) (free_bad_composite errors.OutOfSegment tt)) (free_bad_composite errors.WrongKind tt)

free_plain_there : (segments : List (List ℕ)) (segment element_size count : ℕ) (place : Option ℕ) → IsFree (plain_there segments segment element_size count place)
unfolding Free fields_in
free_plain_there segments segment element_size count None = (tt, tt, λ path. tt)
free_plain_there segments segment element_size count (Some start) = (tt, tt, λ path. tt)

free_list : (made : ℕ → ℕ → ℕ → Tree) (segments : List (List ℕ)) (segment : ℕ) (start : Option ℕ) (element_size count : ℕ) → IsFree (list_there made segments segment start element_size count)
unfolding list_there
free_list made segments segment start element_size count =
    free_choice _ _ _ (free_composite_there made segments segment count (extent segments segment start 1)) (free_plain_there segments segment element_size count (extent segments segment start (plain_words element_size count)))

free_nothing : IsFree nothing
unfolding Free fields_in
free_nothing = (tt, tt, λ path. tt)

module _ (made : ℕ → ℕ → ℕ → ℕ → Tree) (free : (segment start data_words pointer_count : ℕ) → IsFree (made segment start data_words pointer_count)) where
  free_structure_there : (segment data_words pointer_count : ℕ) (start : Option ℕ) → IsFree (structure_there (λ at. made segment at data_words pointer_count) start)
  unfolding Free fields_in
  free_structure_there segment data_words pointer_count None = (tt, tt, λ path. tt)
  free_structure_there segment data_words pointer_count (Some start) = free segment start data_words pointer_count

  free_pointed : (segments : List (List ℕ)) (lead : Result Pointee ReadError) → Fine lead → IsFree (tree_behind made segments lead)
  unfolding Free fields_in tree_behind
  free_pointed segments (Err e) p = (p, p, λ path. p)
  free_pointed segments (Ok leads.Null) p = free_nothing
  free_pointed segments (Ok (leads.Struct segment start data_words pointer_count)) p =
      free_structure_there segment data_words pointer_count (extent segments segment start (data_words + pointer_count))
  free_pointed segments (Ok (leads.List segment start element_size count)) p = free_list (made segment) segments segment start element_size count
  free_pointed segments (Ok (leads.Capability index)) p = (tt, tt, λ path. tt)
  free_pointed segments (Ok leads.Reserved) p = (tt, tt, λ path. tt)

fine_followed : (segments : List (List ℕ)) (segment at : ℕ) → Fine (pointee_at segments segment at)
fine_followed segments segment at = fine_landed segments segment at _

free_structure : (depth : ℕ) (segments : List (List ℕ)) (segment start data_words pointer_count : ℕ) → IsFree (structure_at depth segments segment start data_words pointer_count)
unfolding Free fields_in structure_at
free_structure zero segments segment start data_words pointer_count = (tt, tt, λ path. tt)
free_structure (suc depth) segments segment start data_words pointer_count = (
  tt,
  tt,
  λ path. free_each _ (λ n. (free_choice (nat_lt n pointer_count) (tree_behind (structure_at depth segments) segments (pointee_at segments segment (start + data_words + n))) nothing
      (free_pointed (structure_at depth segments) (free_structure depth segments) segments (pointee_at segments segment (start + data_words + n)) (fine_followed segments segment (start + data_words + n)))
      free_nothing).2 (path ++ n ∷ [])) pointer_count 0,
)

free_tree : (depth : ℕ) (segments : List (List ℕ)) (segment at : ℕ) → IsFree (tree_at depth segments segment at)
free_tree depth segments segment at =
    free_pointed (structure_at depth segments) (free_structure depth segments) segments (pointee_at segments segment at) (fine_followed segments segment at)

pub structures_want_none : (depth : ℕ) (segments : List (List ℕ)) (segment at words : ℕ) → (run (structure_in (tree_at depth segments segment at)) words).0 ≡ Err errors.OutOfMemory → ⊥
structures_want_none depth segments segment at words = wants_none _ words (free_tree depth segments segment at).0

pub lists_want_none : (depth : ℕ) (segments : List (List ℕ)) (segment at words : ℕ) → (run (elements_in (tree_at depth segments segment at)) words).0 ≡ Err errors.OutOfMemory → ⊥
lists_want_none depth segments segment at words = wants_none _ words (free_tree depth segments segment at).1

pub elements_want_none : (depth : ℕ) (segments : List (List ℕ)) (segment start data_words pointer_count words : ℕ) → (run (structure_in (structure_at depth segments segment start data_words pointer_count)) words).0 ≡ Err errors.OutOfMemory → ⊥
elements_want_none depth segments segment start data_words pointer_count words = wants_none _ words (free_structure depth segments segment start data_words pointer_count).0

-- ---- texts

free_text_of : (count : ℕ) (word : ℕ → ℕ) → Free (text_of count word)
unfolding Free text_of
free_text_of zero word = tt
free_text_of (suc len) word =
    elim (cases_eq (byte_in len word) 0) [
      | inl ends ↦ rw (eq-eqb _ 0 ends) tt
      | inr other ↦ rw (ne_eqb _ 0 other) tt
    ]

free_text_there : (segments : List (List ℕ)) (segment count : ℕ) (place : Option ℕ) → Free (text_in (plain_there segments segment 2 count place))
unfolding Free
free_text_there segments segment count None = tt
free_text_there segments segment count (Some start) = free_text_of count _

free_text : (depth : ℕ) (segments : List (List ℕ)) (lead : Result Pointee ReadError) → Fine lead → Free (text_in (tree_behind (structure_at depth segments) segments lead))
unfolding Free tree_behind list_there
free_text depth segments (Err e) p = p
free_text depth segments (Ok leads.Null) p = tt
free_text depth segments (Ok (leads.Struct segment start data_words pointer_count)) p =
    rw (structure_is_no_text depth segments segment start data_words pointer_count) tt
free_text depth segments (Ok (leads.List segment start element_size count)) p =
    elim (cases_eq element_size 2) [
      | inl bytes ↦ rw bytes (free_text_there segments segment count (extent segments segment start (plain_words 2 count)))
      | inr other ↦ rw (list_is_no_text (structure_at depth segments segment) segments segment start element_size count other) tt
    ]
free_text depth segments (Ok (leads.Capability index)) p = tt
free_text depth segments (Ok leads.Reserved) p = tt

pub texts_want_none : (depth : ℕ) (segments : List (List ℕ)) (segment at words : ℕ) → (run (text_in (tree_at depth segments segment at)) words).0 ≡ Err errors.OutOfMemory → ⊥
texts_want_none depth segments segment at words = wants_none _ words (free_text depth segments (pointee_at segments segment at) (fine_followed segments segment at))

pub fields_want_none : (depth : ℕ) (segments : List (List ℕ)) (segment at words : ℕ) (path : List ℕ) → (run (fields_in path (tree_at depth segments segment at)) words).0 ≡ Err errors.OutOfMemory → ⊥
fields_want_none depth segments segment at words path = wants_none _ words ((free_tree depth segments segment at).2 path)
