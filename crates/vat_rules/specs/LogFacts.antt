-- What a good log tells.
use Rattle.std.specs.Prelude.{ℕ, List, Bool, Option}
use Rattle.vat_rules.specs.Types.{DecodedRecord, View}

-- what the numbers of a record stand for: none where it has no such number, or one that stands for nothing; and whether it
-- is a Return that is late
pub record Facts : Type 0 where
  pub references : List (Option View)
  pub question : Option View
  pub taken : Option View
  pub promise : Option View
  pub target : Option View
  pub released : Option View
  pub caps : List (Option View)
  pub late : Bool

-- a record with what its numbers stand for
pub record Entry : Type 0 where
  pub event : DecodedRecord
  pub facts : Facts

-- its records, each with what its numbers stand for, and how many calls were delivered
pub record Told : Type 0 where
  pub entries : List Entry
  pub delivered : ℕ
