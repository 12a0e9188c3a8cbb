-- What is known of a sentence: it is a line, and may stand in an SVG as it is.
use Rattle.std.specs.Prelude.{◌≡◌, ◌==◌, ◌&&◌, ◌||◌, ℕ, Bool, List, length, not, nat_le, nat_lt, true}
use Rattle.std.specs.List.{list_all}

-- a printing character of ASCII, but neither `&` nor `<`, which have a meaning in an SVG
abbrev pub is_letter : ℕ → Bool
is_letter c = nat_le 32 c && nat_lt c 127 && not ((c == 38) || (c == 60))

-- it isn't empty, and has such characters alone, so no end of a line
abbrev pub IsPrintedLine : List ℕ → Type 0
IsPrintedLine text = (nat_lt 0 (length text) && list_all is_letter text) ≡ true
