-- A record without a message: what it uses and gives back is nothing.
use Rattle.std.proofs.Common.{◌≡◌, refl, sym, false, arith}
use Rattle.std.proofs.lemmas.Bool.{false≢true}
use Rattle.vat_view.specs.Types.{DecodedRecord, Wire, TableKey}
use Rattle.decoded_records.specs.Past.{Past}
use Rattle.decoded_records.specs.Lives.{gives_back, GivesBackHeld}
use Rattle.decoded_records.specs.Uses.{UsesQuestions, UsesNumbers}
use Rattle.decoded_records.specs.Glue.Parts.{has_message}

pub own_uses_questions : (before : Past) (e : DecodedRecord) → has_message e ≡ false → UsesQuestions before e
own_uses_questions before (Wire s k c rs m) h = absurd (false≢true (sym h))
own_uses_questions before _ h = record { used = refl; returned_once = tt; taken_once = tt }

pub own_uses_numbers : (before : Past) (e : DecodedRecord) → has_message e ≡ false → UsesNumbers before e
own_uses_numbers before (Wire s k c rs m) h = absurd (false≢true (sym h))
own_uses_numbers before _ h = refl

own_gives_none : (i : TableKey) (before : Past) (e : DecodedRecord) → has_message e ≡ false → gives_back i before e ≡ 0
own_gives_none i before (Wire s k c rs m) h = absurd (false≢true (sym h))
own_gives_none i before _ h = refl

pub own_gives_back_held : (before : Past) (e : DecodedRecord) → has_message e ≡ false → GivesBackHeld before e
own_gives_back_held before e own i = let none = own_gives_none i before e own in omega (arith, none)
