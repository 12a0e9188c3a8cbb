-- For the code's contracts, and no part of the meaning: kinds of records of which no rule asks what numbers stand for.
use Rattle.std.specs.Prelude.{◌≡◌, Bool, true, false, not}
use Rattle.decoded_records.specs.Past.{Past}
use Rattle.decoded_records.specs.Lives.{GivesBackHeld}
use Rattle.decoded_records.specs.Uses.{OpensFree, UsesQuestions, UsesNumbers}
use Rattle.decoded_records.specs.Bindings.{Refers}
use Rattle.vat_rules.specs.Types.{Edition, Bootstrap, Call, Return, Finish, Release, DecodedRecord, Host, Vow, Make, Field, Wire}
use Rattle.vat_rules.specs.OfConnections.{IsOpen}
use Rattle.vat_rules.specs.Glue.Asked.{IsBare}

-- a record without a message binds a number, and can break REF alone
abbrev pub binds : DecodedRecord → Bool
binds (Host r object) = true
binds (Vow r) = true
binds (Make call r interface method) = true
binds (Field r call path) = true
binds _ = false

-- no rule asks what a message's numbers stand for, where it carries no capability
abbrev pub asks_no_views : DecodedRecord → Bool
asks_no_views (Wire sent k call references (Bootstrap q)) = true
asks_no_views (Wire sent k call references (Finish q release)) = true
asks_no_views (Wire sent k call references (Release n count)) = true
asks_no_views (Wire sent k call references (Call head target params)) = not sent
asks_no_views (Wire sent k call references (Return head outcome)) = not sent
asks_no_views _ = false

-- and it carries none
pub record IsPlain (e : DecodedRecord) : Type 0 where
  pub kind : asks_no_views e ≡ true
  pub bare : IsBare e

-- each rule holds that such a message may break
pub record MeetsPlain (edition : Edition) (before : Past) (e : DecodedRecord) : Type 0 where
  pub open_still : IsOpen edition before e
  pub refers : Refers before e
  pub opens_free : OpensFree before e
  pub uses_questions : UsesQuestions before e
  pub gives_back_held : GivesBackHeld before e
  pub uses_numbers : UsesNumbers before e
