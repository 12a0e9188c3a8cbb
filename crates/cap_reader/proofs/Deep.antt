-- No path is longer than structs may stand within one another.
use Rattle.std.proofs.Common.{◌≡◌, ℕ, zero, suc, ◌+◌, ◌≤◌, cond, List, [], ◌∷◌, length, Option, Some, None, Result, Ok, Err, refl, sym, ◌∙◌, arith}
use Rattle.std.specs.Prelude.{nat_lt}
use Rattle.cap_reader.specs.declared.pointee.Pointee.{Pointee}
use Rattle.cap_reader.specs.declared.pointee.Pointee.TheVariants as leads
use Rattle.cap_reader.specs.declared.read_error.ReadError.{ReadError}
use Rattle.cap_reader.specs.Pointers.{extent, pointee_at}
use Rattle.cap_reader.specs.Tree.{Tree, nothing, structure_there, list_there, tree_behind, structure_at, tree_at}
use Rattle.cap_reader.specs.Fields.{capability_at}
use Rattle.cap_reader.proofs.OtherKinds.{list_is}
use Rattle.cap_reader.proofs.Paths.{guard_some, not_some}

abbrev IsShort : ℕ → Tree → Type 0
IsShort depth tree = (path : List ℕ) (index : ℕ) → capability_at tree path ≡ Some index → length path ≤ depth

list_has_none : (made : ℕ → ℕ → ℕ → Tree) (segments : List (List ℕ)) (segment : ℕ) (start : Option ℕ) (element_size count : ℕ) (path : List ℕ) → capability_at (list_there made segments segment start element_size count) path ≡ None
unfolding capability_at
list_has_none made segments segment start element_size count path =
    list_is (λ tree. capability_at tree path) None (λ n g. refl) (λ e. refl) (λ size n word. refl) (λ size e. refl) made segments segment start element_size count

module _ (depth : ℕ) (made : ℕ → ℕ → ℕ → ℕ → Tree) (short : (segment start data_words pointer_count : ℕ) → IsShort depth (made segment start data_words pointer_count)) where
  there_short : (segment data_words pointer_count : ℕ) (start : Option ℕ) → IsShort depth (structure_there (λ at. made segment at data_words pointer_count) start)
  unfolding capability_at
  there_short segment data_words pointer_count None path index h = absurd (not_some index h)
  there_short segment data_words pointer_count (Some start) path index h = short segment start data_words pointer_count path index h

  lead_short : (segments : List (List ℕ)) (lead : Result Pointee ReadError) → IsShort depth (tree_behind made segments lead)
  unfolding capability_at tree_behind
  lead_short segments (Err e) path index h = absurd (not_some index h)
  lead_short segments (Ok leads.Null) path index h = absurd (not_some index h)
  lead_short segments (Ok (leads.Struct segment start data_words pointer_count)) path index h =
      there_short segment data_words pointer_count (extent segments segment start (data_words + pointer_count)) path index h
  lead_short segments (Ok (leads.List segment start element_size count)) path index h =
      absurd (not_some index (sym (list_has_none (made segment) segments segment start element_size count path) ∙ h))
  lead_short segments (Ok (leads.Capability j)) [] index h = omega arith
  lead_short segments (Ok (leads.Capability j)) (n ∷ path) index h = absurd (not_some index h)
  lead_short segments (Ok leads.Reserved) path index h = absurd (not_some index h)

struct_short : (depth : ℕ) (segments : List (List ℕ)) (segment start data_words pointer_count : ℕ) → IsShort depth (structure_at depth segments segment start data_words pointer_count)
unfolding capability_at structure_at
struct_short zero segments segment start data_words pointer_count path index h = absurd (not_some index h)
struct_short (suc depth) segments segment start data_words pointer_count [] index h = absurd (not_some index h)
struct_short (suc depth) segments segment start data_words pointer_count (n ∷ path) index h =
    let child = tree_behind (structure_at depth segments) segments (pointee_at segments segment (start + data_words + n)) in
    let g = guard_some (nat_lt n pointer_count) (capability_at (cond (nat_lt n pointer_count) child nothing) path) index h in
    let k : capability_at child path ≡ Some index = rw g.0 at g.1 in
    let le = lead_short depth (structure_at depth segments) (struct_short depth segments) segments (pointee_at segments segment (start + data_words + n)) path index k in
    omega (arith, le)

pub path_is_short : (depth : ℕ) (segments : List (List ℕ)) (segment at : ℕ) (path : List ℕ) (index : ℕ) → capability_at (tree_at depth segments segment at) path ≡ Some index → length path ≤ depth
path_is_short depth segments segment at = lead_short depth (structure_at depth segments) (struct_short depth segments) segments (pointee_at segments segment at)
