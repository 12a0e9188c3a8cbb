-- A log that is read some records ahead of what is taken of it.
use Rattle.std.specs.Prelude.{◌≡◌, ◌≢◌, ◌⊎◌, Bool, true, List, [], ◌++◌, drop}
use Rattle.byte_pieces.specs.Coming.{CameSoFar, ComesOn}
use Rattle.vat_log.specs.Log.{Log}
use Rattle.vat_log.specs.declared.body.Body.{Body}

-- what came of the log, the log as far as it was read, the last of its records, which aren't taken yet, and whether no more is
-- read
pub record LaneSoFar : Type 0 where
  pub came : CameSoFar
  pub log : Log
  pub ahead : List Body
  pub has_ended : Bool

-- without the first record ahead
abbrev pub without_first : LaneSoFar → LaneSoFar
without_first lane = record lane { ahead = drop 1 lane.ahead }

-- more of the log was read, and nothing once it had ended
pub record GoesOn (lane longer : LaneSoFar) : Type 0 where
  pub on : ComesOn lane.came longer.came
  pub vat : longer.log.vat ≡ lane.log.vat
  pub more : List Body
  pub records : longer.log.records ≡ lane.log.records ++ more
  pub ahead : longer.ahead ≡ lane.ahead ++ more
  pub over : lane.has_ended ≡ true → (more ≡ []) × (longer.has_ended ≡ true)

-- a record is ahead, or no more is read
abbrev pub HasNext : LaneSoFar → Type 0
HasNext lane = (lane.ahead ≢ []) ⊎ (lane.has_ended ≡ true)
