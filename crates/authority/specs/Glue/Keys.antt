-- For the code's contracts, and no part of the meaning: keys of vats and capabilities.
use Rattle.std.specs.Prelude.{◌≡◌, ℕ, Bool}
use Rattle.run_model.specs.Edges.{Edge}
use Rattle.run_model.specs.Steps.{call}
use Rattle.run_model.specs.declared.cap.Cap.{Cap}
use Rattle.run_model.specs.declared.cap.Cap.TheVariants as cap
use Rattle.authority.specs.contracts.key.KeyPartialEq.TheImpl as equality
use Rattle.authority.specs.declared.key.Key.{Key}
use Rattle.authority.specs.declared.key.Key.TheVariants.{Object, Promise, Field, Nothing}

-- the vat of a key
abbrev pub key_vat : Key → ℕ
key_vat (Object v o n) = v
key_vat (Promise v o n) = v
key_vat (Field v m n path) = v
key_vat (Nothing v) = v

-- the capability of a key
abbrev pub key_cap : Key → Cap
key_cap (Object v o n) = cap.Object o n
key_cap (Promise v o n) = cap.Promise o n
key_cap (Field v m n path) = cap.Field (call m n) path.items
key_cap (Nothing v) = cap.Nothing

-- the key is that of this vat and capability
abbrev pub IsKeyOf : ℕ → Cap → Key → Type 0
IsKeyOf v a key = (key_vat key ≡ v) × (key_cap key ≡ a)

-- the edge that an entry tells
abbrev pub entry_edge : Key × (ℕ × ℕ) → Edge
entry_edge entry = record { vat = key_vat entry.0; cap = key_cap entry.0; at_record = (entry.1).0; bound_index = (entry.1).1 }

-- whether two keys are one
abbrev pub key_eq : Key → Key → Bool
key_eq = (equality.ghosts).eq
