-- The words of a reason in a document: printed as `records --reasons` prints it, and what would be markup is escaped.
use Rattle.std.specs.Prelude.{ℕ, Bool, not, ◌==◌, ◌||◌, List, [], ◌∷◌, ◌++◌, length, take, Option, Some, None, if◌then◌else◌, nat_lt, codes}
use Rattle.std.specs.List.{flat_map, list_all}
use Rattle.exception_reasons.specs.Printed.{printed}

-- a letter in a document: & and < and > by their names
abbrev pub letter_markup : ℕ → List ℕ
letter_markup letter =
    if letter == 38 then codes "&amp;"
    else (if letter == 60 then codes "&lt;"
    else (if letter == 62 then codes "&gt;"
    else letter ∷ []))

-- a text in a document
abbrev pub markup : List ℕ → List ℕ
markup text = flat_map letter_markup text

-- a reason: its bytes between quotation marks
abbrev pub quoted : List ℕ → List ℕ
quoted reason = codes " reason \"" ++ (markup (printed reason) ++ codes "\"")

-- in a row of a picture: at most its first 80 bytes, and two dots behind them where it has more
abbrev pub short_reason : Option (List ℕ) → List ℕ
short_reason None = []
short_reason (Some reason) = if nat_lt 80 (length reason) then quoted (take 80 reason) ++ codes " .." else quoted reason

-- in a row of a table: all of it
abbrev pub whole_reason : Option (List ℕ) → List ℕ
whole_reason None = []
whole_reason (Some reason) = quoted reason

-- ---- a law: no reason makes a tag

-- neither < nor > is in a text
abbrev pub has_no_tag : List ℕ → Bool
has_no_tag text = list_all (λ letter. not ((letter == 60) || (letter == 62))) text
