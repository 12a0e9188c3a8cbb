-- How many steps of each vat were counted, as a list of vats, each with its number. A vat that isn't there has none.
use Rattle.std.specs.Prelude.{ℕ, List, unwrap_or}
use Rattle.std.specs.Ordering.{nat_cmp}
use Rattle.std.specs.Map.{lookup}
use Rattle.std.specs.BTreeMap.{is_at}

-- how many steps of a vat were counted
abbrev pub step_count : List (ℕ × ℕ) → ℕ → ℕ
step_count numbers vat = unwrap_or (lookup (is_at (nat_cmp vat)) numbers) 0
