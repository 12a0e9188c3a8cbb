-- Bytes that come piece by piece from a reader that a source opened.
use Rattle.std.specs.Prelude.{◌≡◌, ◌⊎◌, ℕ, ⊤, Bool, true, false, List, [], Option, Some, None, Result, Ok, Err, is_some}
use Rattle.byte_pieces.specs.Coming.{CameSoFar, MayBeAll}
use Rattle.case_files.specs.declared.source.SourceError.{SourceError}
use Rattle.case_files.specs.CaseReading.{Read, Reads}

-- these bytes are the whole, and what came is of them
pub record GivesOf (all : List ℕ) (came : CameSoFar) : Type 0 where
  pub whole : came.whole ≡ Some all
  pub part : MayBeAll came.bytes came.is_over all

-- nothing came, and nothing can be read
pub record GivesNothing (came : CameSoFar) : Type 0 where
  pub failed : is_some came.fault ≡ true
  pub none : came.bytes ≡ []
  pub begun : came.is_over ≡ false

-- What came from a reader is of what reading a name gives, as far as that is known; or nothing can be read.
abbrev pub IsOf : Option Read → CameSoFar → Type 0
IsOf None came = ⊤
IsOf (Some (Ok all)) came = GivesOf all came ⊎ GivesNothing came
IsOf (Some (Err fault)) came = GivesNothing came

-- What may come of closing a reader that was opened under a name: what came from it, and whatever follows where it isn't over,
-- is what reading the name gives; or reading it gives this fault, as it does where the reader failed.
abbrev pub Closes : {S X : Type 0} → Reads S → S → List ℕ → CameSoFar → Bool → Result X SourceError → S → Type 0
Closes gives old name came failed (Ok _) new = (failed ≡ false) × ((all : List ℕ) × (MayBeAll came.bytes came.is_over all × gives old name (Ok all) new))
Closes gives old name came failed (Err fault) new = gives old name (Err fault) new
