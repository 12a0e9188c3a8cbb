-- For the code's contracts, and no part of the meaning: tables by numbers of connections.
use Rattle.std.specs.Prelude.{◌≡◌, ℕ, ◌+◌, ◌*◌, Option, None, option_and_then, if◌then◌else◌}
use Rattle.rising_table.specs.Entries.{entry_at}
use Rattle.number_tables.specs.declared.by_connection.ByConnection.{ByConnection}
use Rattle.decoded_records.specs.declared.table_key.TableKey.{TableKey}

-- which of the tables has a number: that of its connection and of who gave it out
abbrev pub side_of : TableKey → ℕ
side_of i = i.connection * 2 + (if i.ours then 1 else 0)

-- what the tables have of a number
abbrev pub value_at : {V : Type 0} → ByConnection V → TableKey → Option V
value_at table i = option_and_then (λ values. entry_at values i.number) (entry_at table.tables (side_of i))

-- no number of a side has a value
abbrev pub LacksSide : {V : Type 0} → ByConnection V → ℕ → Type 0
LacksSide table side = (i : TableKey) → side_of i ≡ side → value_at table i ≡ None
