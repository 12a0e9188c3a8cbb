-- For the code's contracts, and no part of the meaning: the table of Resolves, and the kinds of lives.
use Rattle.std.specs.Prelude.{◌≡◌, ℕ, nat_lt, Bool, true, false, not, ◌&&◌, Option, Some, None, option_map, option_and_then, is_some}
use Rattle.std.specs.Bool.{beq}
use Rattle.std.specs.BTreeMap.{get}
use Rattle.std.specs.Option.{option_or, option_map_or}
use Rattle.number_tables.specs.declared.exports_imports.ExportsImports.{ExportsImports}
use Rattle.vat_view.specs.declared.record.introduced.Introduced.{Introduced}
use Rattle.decoded_records.specs.declared.origin.Origin.{Origin}
use Rattle.vat_view.specs.declared.tables.turns.resolves.Resolves.{Resolves}
use Rattle.vat_view.specs.Types.{Descriptor, DecodedRecord, TableKey}
use Rattle.decoded_records.specs.Past.{Past, Point, names, record_index, last_where}
use Rattle.decoded_records.specs.Lives.{number_introduced, is_promised, promise_resolved}
use Rattle.decoded_records.specs.Glue.Parts.{id_cmp}
use Rattle.number_tables.specs.Glue.LifeTables.{held_origin}
use Rattle.vat_view.specs.Glue.Tables.{begun_origin}

-- the record that the table has for a promise
abbrev pub resolve_at : Resolves → TableKey → Option ℕ
resolve_at table i = option_and_then (λ number. number) (get id_cmp table.entries i)

-- the table has room for what is resolved
abbrev pub has_room_to_resolve : Resolves → Option TableKey → Bool
has_room_to_resolve table (Some i) = is_some (get id_cmp table.entries i)
has_room_to_resolve table None = true

-- the last Resolve of a number
abbrev pub last_resolve : TableKey → Past → Option Point
last_resolve i past = last_where (λ before e. names i (promise_resolved e)) past

-- the table of Resolves has what looking back finds
abbrev pub AreResolved : Past → Resolves → Type 0
AreResolved past table = (i : TableKey) → resolve_at table i ≡ option_map record_index (last_resolve i past)

-- whether the last Resolve came after the record where a life began
abbrev pub resolved_since : Option Origin → Option ℕ → Bool
resolved_since (Some origin) (Some last) = nat_lt origin.number last
resolved_since (Some origin) None = false
resolved_since None last = false

-- whether a descriptor is of the kind of a life that began so, if one did
abbrev pub of_kind_by : Descriptor → Option Origin → Bool
of_kind_by d origin = option_map_or (λ origin. beq origin.promised (is_promised (Some d))) origin true

-- whether the number that a descriptor of the record that comes next introduces keeps its kind, by the tables before
-- it and what it introduces
abbrev pub keeps_by : ExportsImports → Introduced → Resolves → DecodedRecord → Descriptor → Bool
keeps_by lives begun resolves next d =
    option_map_or (λ i. of_kind_by d (option_or (held_origin lives i) (begun_origin begun i)) && not (resolved_since (held_origin lives i) (resolve_at resolves i))) (number_introduced next d) true
