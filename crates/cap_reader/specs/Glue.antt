-- For the contracts of private functions alone: no public clause's meaning needs this file.
use Rattle.std.specs.Prelude.{◌≡◌, ℕ, List, ◌++◌, Result, Ok, Err}
use Rattle.cap_reader.specs.declared.read_error.ReadError.{ReadError}
use Rattle.cap_reader.specs.Reading.{Reading, done, fault}

-- what a call answers, seen in some way, is what a reading without visits gives, whatever the words
abbrev pub Gives : {X Y : Type 0} → (X → Y) → Result X ReadError → Reading ReadError Y → Type 0
Gives seen (Ok x) reading = reading ≡ done (seen x)
Gives seen (Err e) reading = reading ≡ fault e

-- what a reading of a list answered, behind a list that was there
abbrev pub with_front : {E A : Type 0} → List A → Result (List A) E × ℕ → Result (List A) E × ℕ
with_front {E} {A} front ran = (behind ran.0, ran.1)
  where
    behind : Result (List A) E → Result (List A) E
    behind (Ok found) = Ok (front ++ found)
    behind (Err e) = Err e
