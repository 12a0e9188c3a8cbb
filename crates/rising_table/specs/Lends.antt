-- What a table ends as, where a `&mut` to one of its values is returned.
use Rattle.std.specs.Prelude.{ℕ, ◌≡◌, ◌==◌, List, Option, option_map, length, if◌then◌else◌}
use Rattle.std.specs.Borrow.{LendsSo, Fml, RattleType, MutBor}
use Rattle.rising_table.specs.Entries.{entry_at}
use Rattle.rising_table.specs.contracts.table.RisingTable.{the_row}

-- one number has this in the place of what it had, if it had anything; every other has what it had; and there are as
-- many entries
abbrev pub Writes : {X : Type 0} → ℕ → List (ℕ × X) → List (ℕ × X) → X → Type 0
Writes k old new w = ((q : ℕ) → entry_at new q ≡ (if k == q then option_map (λ _. w) (entry_at old q) else entry_at old q)) × (length new ≡ length old)

-- once the borrow r ends, the number has the last value written through r, and at `None` the table stays as it is
abbrev pub lends_value : (V : RattleType) → MutBor (List (ℕ × V.Denot)) → ℕ → Option (MutBor V.Denot) → Fml
lends_value V s k r = LendsSo (the_row V) V s r (λ n w. Writes k s.now n w) (λ n. n ≡ s.now)
