-- For the code's contracts, and no part of the meaning: the table of export and import numbers.
use Rattle.std.specs.Prelude.{ℕ, ◌==◌, List, Option, Some, None, if◌then◌else◌, option_map, unwrap_or, find}
use Rattle.std.specs.Option.{option_or}
use Rattle.number_tables.specs.declared.exports_imports.ExportsImports.{ExportsImports}
use Rattle.number_tables.specs.declared.life.NumberLife.{NumberLife}
use Rattle.decoded_records.specs.declared.origin.Origin.{Origin}
use Rattle.number_tables.specs.Types.{TableKey}
use Rattle.decoded_records.specs.Past.{same_id}
use Rattle.number_tables.specs.Glue.Sides.{value_at}

-- what the table has of a number
abbrev pub life_at : ExportsImports → TableKey → Option NumberLife
life_at table i = value_at table.entries i

-- where a number's life began, by what is kept of it
abbrev pub begun_at : NumberLife → Origin
begun_at life = record { number = life.number; place = life.place; promised = life.promised; reference = if life.noted then Some life.reference else None }

-- how often the table says that a number is held
abbrev pub held_count_at : ExportsImports → TableKey → ℕ
held_count_at table i = unwrap_or (option_map (λ life. life.count) (life_at table i)) 0

-- where the table says that its last life began
abbrev pub origin_at : ExportsImports → TableKey → Option Origin
origin_at table i = option_map begun_at (life_at table i)

-- where a number's life began, if it is in life
abbrev pub held_origin : ExportsImports → TableKey → Option Origin
held_origin lives i = if held_count_at lives i == 0 then None else origin_at lives i

-- where a number's life began, if it is held; else this
abbrev pub kept_origin : Option NumberLife → Origin → Origin
kept_origin (Some life) origin = if life.count == 0 then origin else begun_at life
kept_origin None origin = origin

-- the origin of a number's life after these introductions: the first of its own where it wasn't held
abbrev pub raised_origin : ℕ → Option Origin → TableKey → List (TableKey × Origin) → Option Origin
raised_origin count origin i introduced = if count == 0 then option_or (option_map (λ x. x.1) (find (λ x. same_id i x.0) introduced)) origin else origin
