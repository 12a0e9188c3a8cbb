-- The least number of a list, and the least that stands there more than once.
use Rattle.std.specs.Prelude.{◌≡◌, ℕ, ◌≤◌, ◌==◌, Bool, List, [], Contains, count_by, filter, fold, Option, Some, None, if◌then◌else◌, nat_lt}

-- the smaller of a number, if there is one, and another
abbrev pub lower : Option ℕ → ℕ → Option ℕ
lower None n = Some n
lower (Some m) n = Some (if nat_lt n m then n else m)

-- the least number of a list
abbrev pub least : List ℕ → Option ℕ
least ns = fold lower None ns

-- What it is, as the law `least_is_least` promises: none where the list is empty, else a number of the list that no other is
-- below.
abbrev pub IsLeast : List ℕ → Option ℕ → Type 0
IsLeast ns None = ns ≡ []
IsLeast ns (Some n) = Contains ns n × ((other : ℕ) → Contains ns other → n ≤ other)

-- a number stands more than once in a list
abbrev pub is_repeated : List ℕ → ℕ → Bool
is_repeated ns n = nat_lt 1 (count_by (λ other. other == n) ns)

-- the least number that stands more than once in a list
unfoldable pub least_repeated : List ℕ → Option ℕ
least_repeated ns = least (filter (is_repeated ns) ns)
