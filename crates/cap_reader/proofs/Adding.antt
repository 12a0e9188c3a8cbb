-- What the pointer at a place adds to a list of capabilities.
use Rattle.std.proofs.Common.{◌≡◌, ℕ, zero, suc, ◌+◌, ◌-◌, ◌<◌, ◌≤◌, Bool, true, false, cond, List, [], ◌∷◌, ◌++◌, Option, Some, None, Result, Ok, Err, refl, sym, ap, subst, ◌∙◌, arith}
use Rattle.std.proofs.lemmas.List.{append-nil}
use Rattle.std.proofs.lemmas.Bool.{lt-ltb, eq-eqb, ne_eqb}
use Rattle.cap_reader.specs.declared.pointee.Pointee.{Pointee}
use Rattle.cap_reader.specs.declared.pointee.Pointee.TheVariants as leads
use Rattle.cap_reader.specs.declared.place.StructAt.{StructAt}
use Rattle.cap_reader.specs.declared.read_error.ReadError.{ReadError}
use Rattle.cap_reader.specs.declared.read_error.ReadError.TheVariants as errors
use Rattle.cap_reader.specs.Pointers.{extent, pointee_at}
use Rattle.cap_reader.specs.Tree.{Tree, composite, bad_composite, tree_behind, structure_at, structure_there, tree_at, list_there, composite_there, plain_there, plain_words, elements_behind}
use Rattle.cap_reader.specs.Reading.{Reading, Sections, Elements, done, fault, and_then, pay_for, run, each, structure_in, elements_in, Refuses, RunsInMemory}
use Rattle.cap_reader.specs.Glue.{with_front, Gives}
use Rattle.cap_reader.specs.Fields.{fields_in}
use Rattle.cap_reader.specs.Places.{child_at}
use Rattle.cap_reader.proofs.Running.{going_on, run_then}
use Rattle.cap_reader.proofs.Loops.{goes_on, ends, is_done}

-- ---- lists

abbrev IsJudged : ℕ → Tree → Type 0
IsJudged depth tree =
    (path : List ℕ)
    → ((x : Option Elements) → elements_in tree ≡ done x → fields_in path tree ≡ done [])
    × ((e : ReadError) → elements_in tree ≡ fault e → fields_in path tree ≡ fault e)

not_both : {A : Type 0} (e : ReadError) (x : A) → ◌≡◌ {A = Reading ReadError A} (fault e) (done x) → ⊥
not_both e x h = cc

same_fault : {A : Type 0} (d e : ReadError) → ◌≡◌ {A = Reading ReadError A} (fault d) (fault e) → d ≡ e
same_fault d e h = cc

of_composite : (depth n : ℕ) (g : ℕ → Tree) → IsJudged depth (composite n g)
unfolding fields_in
of_composite depth n g path = (λ x h. refl, λ e h. absurd (not_both e _ (sym h)))

of_bad : (depth : ℕ) (d : ReadError) → IsJudged depth (bad_composite d)
unfolding fields_in
of_bad depth d path = (λ x h. absurd (not_both d x h), λ e h. ap (λ (w : ReadError). fault w) (same_fault {A = Option Elements} d e h))

either : (depth : ℕ) (b : Bool) (x y : Tree) → IsJudged depth x → IsJudged depth y → IsJudged depth (cond b x y)
either depth true x y p q = p
either depth false x y p q = q

of_list : (depth : ℕ) (made : ℕ → ℕ → ℕ → Tree) (segments : List (List ℕ)) (segment size : ℕ) (place : Option ℕ) → IsJudged depth (composite_there made segments segment size place)
unfolding elements_behind
of_list depth made segments segment size None = of_bad depth errors.OutOfSegment
of_list depth made segments segment size (Some tag_at) =
    either depth _ _ _ (either depth _ _ _ (of_composite depth _ _) (of_bad depth errors.OutOfSegment)) (of_bad depth errors.WrongKind)

composite_is : (made : ℕ → ℕ → ℕ → Tree) (segments : List (List ℕ)) (segment : ℕ) (start : Option ℕ) (element_size count : ℕ) → element_size ≡ 7
    → list_there made segments segment start element_size count ≡ composite_there made segments segment count (extent segments segment start 1)
unfolding list_there
composite_is made segments segment start element_size count e = rw (eq-eqb element_size 7 e) refl

pub composite_judged : (made : ℕ → ℕ → ℕ → Tree) (segments : List (List ℕ)) (segment : ℕ) (start : Option ℕ) (element_size count : ℕ) → element_size ≡ 7 → (x : Option Elements)
    → elements_in (composite_there made segments segment count (extent segments segment start 1)) ≡ done x → (path : List ℕ) → fields_in path (list_there made segments segment start element_size count) ≡ done []
composite_judged made segments segment start element_size count seven x h path =
    ap (fields_in path) (composite_is made segments segment start element_size count seven) ∙ (of_list 0 made segments segment count (extent segments segment start 1) path).0 x h

pub composite_refused : (made : ℕ → ℕ → ℕ → Tree) (segments : List (List ℕ)) (segment : ℕ) (start : Option ℕ) (element_size count : ℕ) → element_size ≡ 7 → (e : ReadError)
    → elements_in (composite_there made segments segment count (extent segments segment start 1)) ≡ fault e → (path : List ℕ) → fields_in path (list_there made segments segment start element_size count) ≡ fault e
composite_refused made segments segment start element_size count seven e h path =
    ap (fields_in path) (composite_is made segments segment start element_size count seven) ∙ (of_list 0 made segments segment count (extent segments segment start 1) path).1 e h

plain_is : (made : ℕ → ℕ → ℕ → Tree) (segments : List (List ℕ)) (segment : ℕ) (start : Option ℕ) (element_size count : ℕ) → (element_size ≡ 7 → ⊥)
    → list_there made segments segment start element_size count ≡ plain_there segments segment element_size count (extent segments segment start (plain_words element_size count))
unfolding list_there
plain_is made segments segment start element_size count e = rw (ne_eqb element_size 7 e) refl

pub plain_judged : (made : ℕ → ℕ → ℕ → Tree) (segments : List (List ℕ)) (segment : ℕ) (start : Option ℕ) (element_size count : ℕ) → (element_size ≡ 7 → ⊥) → (at : ℕ)
    → extent segments segment start (plain_words element_size count) ≡ Some at → (path : List ℕ) → fields_in path (list_there made segments segment start element_size count) ≡ done []
unfolding fields_in
plain_judged made segments segment start element_size count other at h path =
    ap (fields_in path) (plain_is made segments segment start element_size count other ∙ ap (plain_there segments segment element_size count) h)

pub plain_refused : (made : ℕ → ℕ → ℕ → Tree) (segments : List (List ℕ)) (segment : ℕ) (start : Option ℕ) (element_size count : ℕ) → (element_size ≡ 7 → ⊥)
    → extent segments segment start (plain_words element_size count) ≡ None → (path : List ℕ) → fields_in path (list_there made segments segment start element_size count) ≡ fault errors.OutOfSegment
unfolding fields_in
plain_refused made segments segment start element_size count other h path =
    ap (fields_in path) (plain_is made segments segment start element_size count other ∙ ap (plain_there segments segment element_size count) h)

-- ---- what the pointer at a place adds

abbrev answered : List (List ℕ × ℕ) → ℕ → Result (List (List ℕ × ℕ)) ReadError × ℕ
answered all left = (Ok all, left)

abbrev refused : ReadError → ℕ → Result (List (List ℕ × ℕ)) ReadError × ℕ
refused e left = (Err e, left)

-- a refusal of the definition is one of the call
pub refuses_so : {Y : Type 0} (e : ReadError) (left : ℕ) (ran : Result Y ReadError × ℕ) → ran ≡ (Err e, left) → Refuses e left ran
refuses_so errors.OutOfMemory left ran h = tt
refuses_so errors.OutOfSegment left ran h = h
refuses_so errors.NoSegment left ran h = h
refuses_so errors.BadPad left ran h = h
refuses_so errors.WrongKind left ran h = h
refuses_so errors.NoZero left ran h = h
refuses_so errors.Reserved left ran h = h
refuses_so errors.TooDeep left ran h = h
refuses_so errors.TooMuch left ran h = h

-- the capabilities below a struct that was looked for
abbrev pub fields_below : List ℕ → Option Sections → Reading ReadError (List (List ℕ × ℕ))
fields_below path None = done []
fields_below path (Some sections) = each (λ n. fields_in (path ++ n ∷ []) (sections.child n)) 0 sections.pointer_count

abbrev pub structure_found : ℕ → List (List ℕ) → ℕ → Option ℕ → ℕ → ℕ → Tree
structure_found depth segments segment start data_words pointer_count =
    structure_there (λ at. structure_at depth segments segment at data_words pointer_count) (extent segments segment start (data_words + pointer_count))

pub below_there : (path : List ℕ) (depth : ℕ) (segments : List (List ℕ)) (segment data_words pointer_count : ℕ) (place : Option ℕ)
    → fields_in path (structure_there (λ at. structure_at depth segments segment at data_words pointer_count) place) ≡ and_then (structure_in (structure_there (λ at. structure_at depth segments segment at data_words pointer_count) place)) (fields_below path)
unfolding fields_in structure_at and_then
below_there path depth segments segment data_words pointer_count None = refl
below_there path zero segments segment data_words pointer_count (Some start) = refl
below_there path (suc depth) segments segment data_words pointer_count (Some start) = refl

module _ (front : List (List ℕ × ℕ)) (path : List ℕ) (depth : ℕ) (segments : List (List ℕ)) (segment at words : ℕ) where
  abbrev adds : Result (List (List ℕ × ℕ)) ReadError × ℕ
  adds = with_front front (run (fields_in path (tree_at depth segments segment at)) words)

  -- that of a tree that is known
  known : (pointee : Result Pointee ReadError) → pointee_at segments segment at ≡ pointee → adds ≡ with_front front (run (fields_in path (tree_behind (structure_at depth segments) segments pointee)) words)
  known pointee e = ap (λ (p : Result Pointee ReadError). with_front front (run (fields_in path (tree_behind (structure_at depth segments) segments p)) words)) e

  pub unfollowed_refuses : (e : ReadError) → pointee_at segments segment at ≡ Err e → Refuses e words adds
  unfolding tree_behind fields_in pay_for
  unfollowed_refuses e h = refuses_so e words adds (known (Err e) h)

  pub null_adds : pointee_at segments segment at ≡ Ok leads.Null → adds ≡ (Ok front, words)
  unfolding tree_behind fields_in pay_for
  null_adds h = known (Ok leads.Null) h ∙ ap (λ (all : List (List ℕ × ℕ)). answered all words) (append-nil front)

  pub capability_adds : (index : ℕ) → pointee_at segments segment at ≡ Ok (leads.Capability index) → adds ≡ (Ok (front ++ (path, index) ∷ []), words)
  unfolding tree_behind fields_in pay_for
  capability_adds index h = known (Ok (leads.Capability index)) h

  pub reserved_adds : pointee_at segments segment at ≡ Ok leads.Reserved → adds ≡ (Err errors.Reserved, words)
  unfolding tree_behind fields_in pay_for
  reserved_adds h = known (Ok leads.Reserved) h

  module _ (far_segment : ℕ) (start : Option ℕ) (element_size count : ℕ) (h : pointee_at segments segment at ≡ Ok (leads.List far_segment start element_size count)) where
    list_known : (reading : Reading ReadError (List (List ℕ × ℕ))) → fields_in path (list_there (structure_at depth segments far_segment) segments far_segment start element_size count) ≡ reading → adds ≡ with_front front (run reading words)
    unfolding tree_behind
    list_known reading e = known (Ok (leads.List far_segment start element_size count)) h ∙ ap (λ (r : Reading ReadError (List (List ℕ × ℕ))). with_front front (run r words)) e

    pub list_adds : (result : Result (Unit {0}) ReadError) → Gives (λ _. []) result (fields_in path (list_there (structure_at depth segments far_segment) segments far_segment start element_size count)) → RunsInMemory (λ _. front) result words adds
    unfolding pay_for
    list_adds (Ok x) e = list_known (done []) e ∙ ap (λ (all : List (List ℕ × ℕ)). answered all words) (append-nil front)
    list_adds (Err d) e = refuses_so d words adds (list_known (fault d) e)

  module _ (far_segment : ℕ) (start : Option ℕ) (data_words pointer_count : ℕ) (h : pointee_at segments segment at ≡ Ok (leads.Struct far_segment start data_words pointer_count)) where
    struct_adds : run (fields_in path (tree_at depth segments segment at)) words ≡ going_on errors.TooMuch (run (structure_in (structure_found depth segments far_segment start data_words pointer_count)) words).0 (run (structure_in (structure_found depth segments far_segment start data_words pointer_count)) words).1 (fields_below path)
    unfolding tree_behind
    struct_adds =
        ap (λ (p : Result Pointee ReadError). run (fields_in path (tree_behind (structure_at depth segments) segments p)) words) h
        ∙ ap (λ (r : Reading ReadError (List (List ℕ × ℕ))). run r words) (below_there path depth segments far_segment data_words pointer_count (extent segments far_segment start (data_words + pointer_count)))
        ∙ run_then errors.TooMuch (structure_in (structure_found depth segments far_segment start data_words pointer_count)) (fields_below path) words

    after_visit : (ran : Result (Option Sections) ReadError × ℕ) → run (structure_in (structure_found depth segments far_segment start data_words pointer_count)) words ≡ ran → adds ≡ with_front front (going_on errors.TooMuch ran.0 ran.1 (fields_below path))
    after_visit ran e =
        ap (with_front front) (struct_adds ∙ ap (λ (r : Result (Option Sections) ReadError × ℕ). going_on errors.TooMuch r.0 r.1 (fields_below path)) e)

    pub struct_refuses : (d : ReadError) (left : ℕ) → run (structure_in (structure_found depth segments far_segment start data_words pointer_count)) words ≡ (Err d, left) → Refuses d left adds
    struct_refuses d left e = refuses_so d left adds (after_visit (Err d, left) e)

    pub struct_begins : (sections : Sections) (left : ℕ) → run (structure_in (structure_found depth segments far_segment start data_words pointer_count)) words ≡ (Ok (Some sections), left)
        → with_front front (run (each (λ n. fields_in (path ++ n ∷ []) (sections.child n)) 0 (sections.pointer_count - 0)) left) ≡ adds
    struct_begins sections left e =
        let all : sections.pointer_count - 0 ≡ sections.pointer_count = omega arith in
        ap (λ (k : ℕ). with_front front (run (each (λ n. fields_in (path ++ n ∷ []) (sections.child n)) 0 k) left)) all ∙ sym (after_visit (Ok (Some sections), left) e)

-- ---- one pointer of a struct after another

pub child_is : (segments : List (List ℕ)) (content : StructAt) (n : ℕ) → n < content.pointer_count → child_at segments content n ≡ tree_at content.below segments content.segment (content.start + content.data_words + n)
child_is segments content n lt = rw (lt-ltb n content.pointer_count lt) refl

module _ (path : List ℕ) (segments : List (List ℕ)) (content : StructAt) where
  abbrev field_at : ℕ → Reading ReadError (List (List ℕ × ℕ))
  field_at n = fields_in (path ++ n ∷ []) (child_at segments content n)

  same_field : (front : List (List ℕ × ℕ)) (longer : List ℕ) (i at words : ℕ) → i < content.pointer_count → longer ≡ path ++ i ∷ [] → at ≡ content.start + content.data_words + i
      → with_front front (run (fields_in longer (tree_at content.below segments content.segment at)) words) ≡ with_front front (run (field_at i) words)
  same_field front longer i at words lt same there = rw (same, there, child_is segments content i lt) refl

  pub field_ends : (e : ReadError) (front : List (List ℕ × ℕ)) (longer : List ℕ) (i at words left : ℕ) (total : Result (List (List ℕ × ℕ)) ReadError × ℕ) → i < content.pointer_count → longer ≡ path ++ i ∷ [] → at ≡ content.start + content.data_words + i
      → Refuses e left (with_front front (run (fields_in longer (tree_at content.below segments content.segment at)) words)) → with_front front (run (each field_at i (content.pointer_count - i)) words) ≡ total → Refuses e left total
  field_ends e front longer i at words left total lt same there h so_far =
      let P : Result (List (List ℕ × ℕ)) ReadError × ℕ → Type 0 = λ ran. Refuses e left ran in
      ends field_at e front content.pointer_count i words left total lt (subst P (same_field front longer i at words lt same there) h) so_far

  pub field_goes_on : (front next : List (List ℕ × ℕ)) (longer : List ℕ) (i at words left : ℕ) (total : Result (List (List ℕ × ℕ)) ReadError × ℕ) → i < content.pointer_count → longer ≡ path ++ i ∷ [] → at ≡ content.start + content.data_words + i
      → with_front front (run (fields_in longer (tree_at content.below segments content.segment at)) words) ≡ (Ok next, left) → with_front front (run (each field_at i (content.pointer_count - i)) words) ≡ total → with_front next (run (each field_at (i + 1) (content.pointer_count - (i + 1))) left) ≡ total
  field_goes_on front next longer i at words left total lt same there h so_far =
      goes_on field_at front next content.pointer_count i words left total lt (sym (same_field front longer i at words lt same there) ∙ h) so_far

  pub field_done : (front : List (List ℕ × ℕ)) (i words : ℕ) (total : Result (List (List ℕ × ℕ)) ReadError × ℕ) → content.pointer_count ≤ i → with_front front (run (each field_at i (content.pointer_count - i)) words) ≡ total → total ≡ (Ok front, words)
  field_done front i words total le so_far = is_done field_at front content.pointer_count i words total le so_far
