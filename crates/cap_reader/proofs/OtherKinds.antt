-- What a pointer of one kind reads as where another is asked for.
use Rattle.std.proofs.Common.{◌≡◌, ℕ, zero, suc, ◌+◌, Bool, true, false, cond, List, Option, Some, None, Ok, refl}
use Rattle.cap_reader.specs.declared.pointee.Pointee.TheVariants as leads
use Rattle.cap_reader.specs.declared.read_error.ReadError.{ReadError}
use Rattle.cap_reader.specs.declared.read_error.ReadError.TheVariants.{WrongKind, OutOfSegment}
use Rattle.cap_reader.specs.Pointers.{extent}
use Rattle.cap_reader.specs.Tree.{Tree, composite, bad_composite, plain, bad_plain, tree_behind, structure_at, structure_there, list_there, composite_there, plain_there, plain_words, elements_behind}
use Rattle.cap_reader.specs.Reading.{fault, structure_in, elements_in}

-- of two trees, either way
chosen : {A : Type 0} (f : Tree → A) (z : A) (b : Bool) (x y : Tree) → f x ≡ z → f y ≡ z → f (cond b x y) ≡ z
chosen f z true x y p q = p
chosen f z false x y p q = q

module _ {A : Type 0} (f : Tree → A) (z : A) (is_composite : (n : ℕ) (g : ℕ → Tree) → f (composite n g) ≡ z) (is_bad : (e : ReadError) → f (bad_composite e) ≡ z) where
  behind_is : (made : ℕ → ℕ → ℕ → Tree) (segments : List (List ℕ)) (segment size tag_at : ℕ) → f (elements_behind made segments segment size tag_at) ≡ z
  unfolding elements_behind
  behind_is made segments segment size tag_at =
      chosen f z _ _ _ (chosen f z _ _ _ (is_composite _ _) (is_bad OutOfSegment)) (is_bad WrongKind)

  there_is : (made : ℕ → ℕ → ℕ → Tree) (segments : List (List ℕ)) (segment size : ℕ) (place : Option ℕ) → f (composite_there made segments segment size place) ≡ z
  there_is made segments segment size None = is_bad OutOfSegment
  there_is made segments segment size (Some tag_at) = behind_is made segments segment size tag_at

  plain_is : ((size n : ℕ) (word : ℕ → ℕ) → f (plain size n word) ≡ z) → ((size : ℕ) (e : ReadError) → f (bad_plain size e) ≡ z) → (segments : List (List ℕ)) (segment size n : ℕ) (place : Option ℕ) → f (plain_there segments segment size n place) ≡ z
  plain_is p q segments segment size n None = q size OutOfSegment
  plain_is p q segments segment size n (Some start) = p size n _

  pub list_by : (made : ℕ → ℕ → ℕ → Tree) (segments : List (List ℕ)) (segment : ℕ) (start : Option ℕ) (element_size count : ℕ) → ((place : Option ℕ) → f (plain_there segments segment element_size count place) ≡ z) → f (list_there made segments segment start element_size count) ≡ z
  unfolding list_there
  list_by made segments segment start element_size count p =
      chosen f z _ _ _ (there_is made segments segment count (extent segments segment start 1)) (p (extent segments segment start (plain_words element_size count)))

  pub list_is : ((size n : ℕ) (word : ℕ → ℕ) → f (plain size n word) ≡ z) → ((size : ℕ) (e : ReadError) → f (bad_plain size e) ≡ z) → (made : ℕ → ℕ → ℕ → Tree) (segments : List (List ℕ)) (segment : ℕ) (start : Option ℕ) (element_size count : ℕ) → f (list_there made segments segment start element_size count) ≡ z
  list_is p q made segments segment start element_size count =
      list_by made segments segment start element_size count (plain_is p q segments segment element_size count)

pub list_is_no_structure : (made : ℕ → ℕ → ℕ → Tree) (segments : List (List ℕ)) (segment : ℕ) (start : Option ℕ) (element_size count : ℕ) → structure_in (list_there made segments segment start element_size count) ≡ fault WrongKind
list_is_no_structure made segments segment start element_size count =
    list_is structure_in (fault WrongKind) (λ n g. refl) (λ e. refl) (λ size n word. refl) (λ size e. refl) made segments segment start element_size count

at_depth : (depth : ℕ) (segments : List (List ℕ)) (segment data_words pointer_count : ℕ) (place : Option ℕ) → elements_in (structure_there (λ at. structure_at depth segments segment at data_words pointer_count) place) ≡ fault WrongKind
unfolding structure_at
at_depth depth segments segment data_words pointer_count None = refl
at_depth zero segments segment data_words pointer_count (Some start) = refl
at_depth (suc depth) segments segment data_words pointer_count (Some start) = refl

pub structure_is_no_list : (depth : ℕ) (segments : List (List ℕ)) (segment : ℕ) (start : Option ℕ) (data_words pointer_count : ℕ) → elements_in (tree_behind (structure_at depth segments) segments (Ok (leads.Struct segment start data_words pointer_count))) ≡ fault WrongKind
unfolding tree_behind
structure_is_no_list depth segments segment start data_words pointer_count =
    at_depth depth segments segment data_words pointer_count (extent segments segment start (data_words + pointer_count))
