-- For the code's contracts, and no part of the meaning: how short lists are kept.
use Rattle.std.specs.Prelude.{List, [], ◌∷◌}
use Rattle.decoded_records.specs.declared.short_list.KeptItems.{KeptItems}
use Rattle.decoded_records.specs.declared.short_list.KeptItems.TheVariants as kept

-- the items that are kept so
abbrev pub items_of : {T : Type 0} → KeptItems T → List T
items_of kept.Nothing = []
items_of (kept.One item) = item ∷ []
items_of (kept.Several items) = items.items
