-- Places of steps in a run: a vat, and how many steps of that vat stand before.
use Rattle.std.specs.Prelude.{ℕ, List, [], ◌∷◌, Bool, false, Option, Some, None, ◌==◌, ◌&&◌, ◌||◌, nat_lt, nat_le, if◌then◌else◌}

-- by vat, then by number
unfoldable pub is_at_most : ℕ × ℕ → ℕ × ℕ → Bool
is_at_most a b = nat_lt a.0 b.0 || ((a.0 == b.0) && nat_le a.1 b.1)

-- there is a place, and it is at most this one
abbrev pub has_at_most : Option (ℕ × ℕ) → ℕ × ℕ → Bool
has_at_most None place = false
has_at_most (Some known) place = is_at_most known place

-- the lesser of two places, where there are any
abbrev pub lesser : Option (ℕ × ℕ) → Option (ℕ × ℕ) → Option (ℕ × ℕ)
lesser None other = other
lesser (Some a) None = Some a
lesser (Some a) (Some b) = if is_at_most a b then Some a else Some b

-- the least of some
abbrev pub least_place : List (ℕ × ℕ) → Option (ℕ × ℕ)
least_place [] = None
least_place (p ∷ ps) = lesser (Some p) (least_place ps)
