-- Bytes as they are printed between quotation marks, in printable ASCII alone, whatever they are: a terminal takes some
-- bytes as commands.
use Rattle.std.specs.Prelude.{ℕ, Bool, ◌+◌, ◌/◌, ◌%◌, ◌==◌, ◌≤◌, List, [], ◌∷◌, All, nat_lt, nat_le, ◌&&◌, if◌then◌else◌}
use Rattle.std.specs.List.{flat_map}

-- the digits 0 to 9, and then the letters a to f
abbrev pub hexadecimal_digit : ℕ → ℕ
hexadecimal_digit digit = if nat_lt digit 10 then 48 + digit else 87 + digit

-- from the space to ~
abbrev pub is_printable : ℕ → Bool
is_printable byte = nat_le 32 byte && nat_le byte 126

-- A byte: a quotation mark or a backslash behind a backslash; else itself where it is printable; else \x and two
-- hexadecimal digits.
abbrev pub byte_text : ℕ → List ℕ
byte_text byte =
    if byte == 34 then 92 ∷ 34 ∷ []
    else (if byte == 92 then 92 ∷ 92 ∷ []
    else (if is_printable byte then byte ∷ []
    else 92 ∷ 120 ∷ hexadecimal_digit (byte / 16) ∷ hexadecimal_digit (byte % 16) ∷ []))

-- bytes one after another
abbrev pub printed : List ℕ → List ℕ
printed bytes = flat_map byte_text bytes

-- ---- a law: what is printed is printable

abbrev pub IsPrintable : List ℕ → Type 0
IsPrintable text = All (λ code. (32 ≤ code) × (code ≤ 126)) text
