-- An order as bytes: eight bytes of magic, then the vat number of each step in four bytes, the lowest byte first.
use Rattle.std.specs.Prelude.{◌≡◌, ℕ, ◌+◌, ◌<◌, ◌^◌, List, [], ◌∷◌, ◌++◌, drop, Result, Ok, Err, All, nat_eq, if◌then◌else◌}
use Rattle.std.specs.List.{flat_map, starts_with}
use Rattle.std.specs.Int.{w32, to_le_bytes, from_le_bytes}
use Rattle.merge_order.specs.declared.error.OrderError.{OrderError}
use Rattle.merge_order.specs.declared.error.OrderError.TheVariants.{BadMagic, Short, OutOfMemory}

-- the bytes that begin each order: VATORD01
abbrev pub order_magic : List ℕ
order_magic = 86 ∷ 65 ∷ 84 ∷ 79 ∷ 82 ∷ 68 ∷ 48 ∷ 49 ∷ []

-- the one spelling of an order
abbrev pub spelling : List ℕ → List ℕ
spelling vats = order_magic ++ flat_map (λ vat. to_le_bytes w32 vat) vats

-- what has a spelling
abbrev pub AreVats : List ℕ → Type 0
AreVats vats = All (λ vat. vat < 2 ^ 32) vats

-- one step before others
abbrev pub with_step_before : ℕ → Result (List ℕ) OrderError → Result (List ℕ) OrderError
with_step_before vat (Ok vats) = Ok (vat ∷ vats)
with_step_before vat (Err fault) = Err fault

-- the steps that bytes spell from an offset on, or the offset of the one that is cut
unfoldable pub steps_at : ℕ → List ℕ → Result (List ℕ) OrderError
steps_at at [] = Ok []
steps_at at (a ∷ b ∷ c ∷ d ∷ rest) = with_step_before (from_le_bytes w32 (a ∷ b ∷ c ∷ d ∷ [])) (steps_at (at + 4) rest)
steps_at at _ = Err (Short at)

-- the order that bytes spell, or the first fault
unfoldable pub spelled_order : List ℕ → Result (List ℕ) OrderError
spelled_order bytes = if starts_with nat_eq bytes order_magic then steps_at 8 (drop 8 bytes) else Err BadMagic

-- What was answered, seen by a view, is what reading gives, or memory ran out, in the place of any answer.
abbrev pub IsOrderFailure : OrderError → Result (List ℕ) OrderError → Type 0
IsOrderFailure OutOfMemory read = Unit {0}
IsOrderFailure BadMagic read = read ≡ Err BadMagic
IsOrderFailure (Short at) read = read ≡ Err (Short at)

abbrev pub GivesOrderInMemory : {X : Type 0} → (X → List ℕ) → Result X OrderError → Result (List ℕ) OrderError → Type 0
GivesOrderInMemory view (Ok x) read = read ≡ Ok (view x)
GivesOrderInMemory view (Err fault) read = IsOrderFailure fault read
