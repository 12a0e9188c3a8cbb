-- The capabilities at and below a pointer: each path of pointer numbers, through structs alone, that ends in a
-- capability pointer, with the index that the pointer has into the capability table; depth first, by pointer number. A
-- list's extent is judged and its elements are unread.
use Rattle.std.specs.Prelude.{ℕ, ◌+◌, List, [], ◌∷◌, ◌++◌, Option, Some, None, nat_lt, if◌then◌else◌}
use Rattle.cap_reader.specs.declared.read_error.ReadError.{ReadError}
use Rattle.cap_reader.specs.declared.read_error.ReadError.TheVariants.{Reserved}
use Rattle.cap_reader.specs.Tree.{Tree, nothing, structure, bad_structure, composite, bad_composite, plain, bad_plain, capability, reserved, unfollowed}
use Rattle.cap_reader.specs.Reading.{Reading, done, fault, visit, cost_of, each}

-- those of the tree that stands at the path
unfoldable pub fields_in : List ℕ → Tree → Reading ReadError (List (List ℕ × ℕ))
fields_in path nothing = done []
fields_in path (structure data_words word pointer_count child) = visit (cost_of (data_words + pointer_count)) (each (λ n. fields_in (path ++ n ∷ []) (child n)) 0 pointer_count)
fields_in path (bad_structure e) = fault e
fields_in path (composite count element) = done []
fields_in path (bad_composite e) = fault e
fields_in path (plain element_size count word) = done []
fields_in path (bad_plain element_size e) = fault e
fields_in path (capability index) = done ((path, index) ∷ [])
fields_in path reserved = fault Reserved
fields_in path (unfollowed e) = fault e

-- the capability at the end of a path of pointer numbers, through structs alone
unfoldable pub capability_at : Tree → List ℕ → Option ℕ
capability_at nothing path = None
capability_at (structure data_words word pointer_count child) [] = None
capability_at (structure data_words word pointer_count child) (n ∷ path) = if nat_lt n pointer_count then capability_at (child n) path else None
capability_at (bad_structure e) path = None
capability_at (composite count element) path = None
capability_at (bad_composite e) path = None
capability_at (plain element_size count word) path = None
capability_at (bad_plain element_size e) path = None
capability_at (capability index) [] = Some index
capability_at (capability index) (n ∷ path) = None
capability_at reserved path = None
capability_at (unfollowed e) path = None
