-- The records before a point, and how to look back over them.
use Rattle.std.specs.Prelude.{ℕ, ◌+◌, ◌==◌, length, List, [], ◌∷◌, Bool, false, ◌&&◌, Option, Some, None, if◌then◌else◌, ⊤}
use Rattle.std.specs.Bool.{beq}
use Rattle.std.specs.Option.{option_or}
use Rattle.decoded_records.specs.Types.{DecodedRecord, TableKey}

-- the records before a point, the newest first
abbrev pub Past : Type 0
Past = List DecodedRecord

-- a record of a log, with those before it
pub record Point : Type 0 where
  pub event : DecodedRecord
  pub before : Past

-- the record at a point, by its parts
abbrev pub point : Past → DecodedRecord → Point
point before e = record { event = e; before = before }

-- which record of the log it is, counted from 0: as many stand before it
abbrev pub record_index : Point → ℕ
record_index p = length p.before

-- the last answer that a record gives, each asked with the records before it
abbrev pub last_answer : {A : Type 0} → (Past → DecodedRecord → Option A) → Past → Option A
last_answer ask [] = None
last_answer ask (e ∷ before) = option_or (ask before e) (last_answer ask before)

-- the record of this number, if there are so many
abbrev pub record_at : ℕ → Past → Option DecodedRecord
record_at number past = last_answer (λ before e. if length before == number then Some e else None) past

-- the last record that passes a test
abbrev pub last_where : (Past → DecodedRecord → Bool) → Past → Option Point
last_where test [] = None
last_where test (e ∷ before) = if test before e then Some (point before e) else last_where test before

-- the last record that passes a test, of those after the last that passes another
abbrev pub last_since : (Past → DecodedRecord → Bool) → (Past → DecodedRecord → Bool) → Past → Option Point
last_since start test [] = None
last_since start test (e ∷ before) =
    if start before e then None else if test before e then Some (point before e) else last_since start test before

-- the sum over all records, each counted with those before it
abbrev pub sum_back : (Past → DecodedRecord → ℕ) → Past → ℕ
sum_back count [] = 0
sum_back count (e ∷ before) = count before e + sum_back count before

-- each record is so by those before it
abbrev pub Each : (Past → DecodedRecord → Type 0) → Past → Type 0
Each P [] = ⊤
Each P (e ∷ before) = P before e × Each P before

-- there is a number, and it is n
abbrev pub is : ℕ → Option ℕ → Bool
is n (Some m) = m == n
is n None = false

-- a number of a connection, by its parts
abbrev pub id : ℕ → Bool → ℕ → TableKey
id connection ours number = record { connection = connection; ours = ours; number = number }

-- two numbers are one
abbrev pub same_id : TableKey → TableKey → Bool
same_id a b = (a.connection == b.connection) && beq a.ours b.ours && (a.number == b.number)

-- a number is named, and it is this one
abbrev pub names : TableKey → Option TableKey → Bool
names i (Some j) = same_id i j
names i None = false
