-- What a table has of a number.
use Rattle.std.specs.Prelude.{ℕ, List, Option}
use Rattle.std.specs.Ordering.{nat_cmp}
use Rattle.std.specs.Map.{lookup}
use Rattle.std.specs.BTreeMap.{is_at}

-- the value of the first entry that has the number
abbrev pub entry_at : {X : Type 0} → List (ℕ × X) → ℕ → Option X
entry_at es k = lookup (is_at (nat_cmp k)) es
