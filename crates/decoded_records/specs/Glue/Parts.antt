-- For the code's contracts, and no part of the meaning: parts of records and views, and the order of numbers.
use Rattle.std.specs.Prelude.{ℕ, List, [], Bool, true, false}
use Rattle.std.specs.declared.cmp.Ordering.{Ordering}
use Rattle.decoded_records.specs.contracts.table_key.TableKeyOrd.TheImpl as id_order
use Rattle.decoded_records.specs.Types.{DecodedRecord, Wire, View, FieldOf, TableKey}

-- whether a record has a message
abbrev pub has_message : DecodedRecord → Bool
has_message (Wire sent k c rs m) = true
has_message _ = false

-- the path of a field; the empty one of every other view
abbrev pub field_path : View → List ℕ
field_path (FieldOf call path) = path
field_path _ = []

-- the order of numbers in tables
abbrev pub id_cmp : TableKey → TableKey → Ordering
id_cmp = (id_order.ghosts).cmp
