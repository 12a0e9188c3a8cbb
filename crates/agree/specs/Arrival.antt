-- Messages that arrive as they should.
use Rattle.agree.specs.Types.{DecodedRecord}
use Rattle.decoded_records.specs.Past.{Past}
use Rattle.decoded_records.specs.Lives.{GivesBackHeld}
use Rattle.decoded_records.specs.Uses.{OpensFree, UsesQuestions, UsesNumbers}

-- a record keeps the rules on questions, and those on the numbers that it uses and gives back
pub record ArrivesWell (before : Past) (e : DecodedRecord) : Type 0 where
  pub opens_free : OpensFree before e
  pub uses_questions : UsesQuestions before e
  pub uses_numbers : UsesNumbers before e
  pub gives_back_held : GivesBackHeld before e
