-- For the code's contracts, and no part of the meaning: what tables by numbers of connections end as, where a `&mut` to
-- one of their values is returned.
use Rattle.std.specs.Prelude.{◌≡◌, Option, option_map, if◌then◌else◌}
use Rattle.std.specs.Borrow.{LendsSo, Fml, RattleType, MutBor}
use Rattle.number_tables.specs.declared.by_connection.ByConnection.{ByConnection}
use Rattle.decoded_records.specs.declared.table_key.TableKey.{TableKey}
use Rattle.number_tables.specs.contracts.by_connection.ByConnection.{the_row}
use Rattle.decoded_records.specs.Past.{same_id}
use Rattle.number_tables.specs.Glue.Sides.{value_at}

-- one number has this in the place of what it had, if it had anything, and every other has what it had
abbrev pub WritesAt : {X : Type 0} → TableKey → ByConnection X → ByConnection X → X → Type 0
WritesAt i old new w = (j : TableKey) → value_at new j ≡ (if same_id i j then option_map (λ _. w) (value_at old j) else value_at old j)

-- once the borrow r ends, the number has the last value written through r, and at `None` nothing changes
abbrev pub lends_value_at : (V : RattleType) → MutBor (ByConnection V.Denot) → TableKey → Option (MutBor V.Denot) → Fml
lends_value_at V s i r = LendsSo (the_row V) V s r (λ n w. WritesAt i s.now n w) (λ n. (j : TableKey) → value_at n j ≡ value_at s.now j)
