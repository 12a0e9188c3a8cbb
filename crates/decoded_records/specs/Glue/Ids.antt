-- For the code's contracts, and no part of the meaning: how numbers that a record introduced are kept.
use Rattle.std.specs.Prelude.{List, [], ◌∷◌}
use Rattle.decoded_records.specs.declared.table_key.TableKey.{TableKey}
use Rattle.decoded_records.specs.declared.table_keys.KeptKeys.{KeptKeys}
use Rattle.decoded_records.specs.declared.table_keys.KeptKeys.TheVariants as kept

-- the numbers that are kept so
abbrev pub ids_of : KeptKeys → List TableKey
ids_of kept.Nothing = []
ids_of (kept.One i) = i ∷ []
ids_of (kept.Several ids) = ids.value.items
