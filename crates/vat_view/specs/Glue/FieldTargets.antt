-- For the code's contracts, and no part of the meaning: references by path.
use Rattle.std.specs.Prelude.{ℕ, List, Bool, Option, option_and_then, find}
use Rattle.std.specs.Cmp.Lexicographic.{slice_cmp}
use Rattle.std.specs.Ordering.{nat_cmp, is_lt}
use Rattle.std.specs.Str.{bytes_eq as same_path}

-- the path of one stands before that of another
abbrev pub is_before : Option ℕ × List ℕ → Option ℕ × List ℕ → Bool
is_before a b = is_lt (slice_cmp nat_cmp a.1 b.1)

-- the reference beside the first of these paths that is this one
abbrev pub target_among : List ℕ → List (Option ℕ × List ℕ) → Option ℕ
target_among path fields = option_and_then (λ field. field.0) (find (λ field. same_path field.1 path) fields)
