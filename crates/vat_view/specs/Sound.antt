-- The rules that the laws rest on.
use Rattle.vat_view.specs.Types.{DecodedRecord}
use Rattle.decoded_records.specs.Past.{Past}
use Rattle.decoded_records.specs.Lives.{GivesBackHeld}
use Rattle.decoded_records.specs.Uses.{UsesQuestions, UsesNumbers}
use Rattle.decoded_records.specs.Bindings.{Refers, NotesEach}

-- a record names, uses and gives back things as it should, and notes a reference for each capability
pub record IsSound (before : Past) (e : DecodedRecord) : Type 0 where
  pub refers : Refers before e
  pub uses_questions : UsesQuestions before e
  pub uses_numbers : UsesNumbers before e
  pub gives_back_held : GivesBackHeld before e
  pub notes_each : NotesEach before e
