-- For the code's contracts, and no part of the meaning: walking over records from frame to frame.
use Rattle.std.specs.Prelude.{◌≡◌, ℕ, suc, ◌<◌, ◌≤◌, List, [], ◌∷◌, length, drop, Option, Some, None, if◌then◌else◌}
use Rattle.std.specs.List.{filter_map}
use Rattle.std.specs.Option.{option_map}
use Rattle.std.specs.Str.{bytes_eq}

-- the first that a walk finds from a place on, and the place after it
abbrev pub IsNext : {X Y : Type 0} → (X → Option Y) → List X → ℕ → Option (ℕ × Y) → Type 0
IsNext h xs from None = filter_map h (drop from xs) ≡ []
IsNext h xs from (Some found) = (filter_map h (drop from xs) ≡ found.1 ∷ filter_map h (drop found.0 xs)) × (from < found.0) × (found.0 ≤ length xs)

-- the least message that was received and isn't the one sent
unfoldable pub first_fault : List (List ℕ) → List (List ℕ) → Option ℕ
first_fault [] sent = None
first_fault (r ∷ received) [] = Some 0
first_fault (r ∷ received) (s ∷ sent) = if bytes_eq r s then option_map suc (first_fault received sent) else Some 0
