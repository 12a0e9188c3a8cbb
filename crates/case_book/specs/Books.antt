-- Books: which pieces of a case are claimed, and what was found of those that are posted.
use Rattle.std.specs.Prelude.{◌≡◌, ℕ, Bool, true, false, not, List, ◌++◌, length, map, replicate, count_by, position, Option, Some, None, is_none, slice_get, slice_set}
use Rattle.vat_rules.specs.Audit.{Found}
use Rattle.link_check.specs.Prefix.{Ends}
use Rattle.case_book.specs.Case.{Contents, IsCase}
use Rattle.case_book.specs.Ties.{tie_fault_of}
use Rattle.case_book.specs.Pieces.{pieces_of, IsForPiece}
use Rattle.case_book.specs.declared.piece_finding.Finding.{Finding}
use Rattle.case_book.specs.declared.piece_finding.Finding.TheVariants as finding
use Rattle.case_book.specs.declared.refused_findings.Refused.{Refused}
use Rattle.case_book.specs.declared.refused_findings.Refused.TheVariants.{Stranger, Double, Unclaimed}

-- a case and, for each of its pieces, whether it is claimed, and its finding, if one is posted
pub record Kept : Type 0 where
  pub case : Contents
  pub claimed : List Bool
  pub found : List (Option Finding)

-- every piece has its place, and what is posted is for its own piece, of a case that ties up
pub record IsBook (book : Kept) : Type 0 where
  pub holds : IsCase book.case
  pub tied : tie_fault_of book.case ≡ None
  pub claims : length book.claimed ≡ length (pieces_of book.case)
  pub places : length book.found ≡ length (pieces_of book.case)
  pub own : (number : ℕ) (found : Finding) → slice_get book.found number ≡ Some (Some found) → IsForPiece book.case found number

-- the book of a case of which nothing is claimed and nothing is posted
abbrev pub new_book : Contents → Kept
new_book held = record {
  case = held;
  claimed = replicate (length (pieces_of held)) false;
  found = replicate (length (pieces_of held)) None;
}

-- the least piece that isn't claimed
abbrev pub least_unclaimed : Kept → Option ℕ
least_unclaimed book = position not book.claimed

-- the least piece that isn't posted
abbrev pub least_missing : Kept → Option ℕ
least_missing book = position is_none book.found

-- how many pieces aren't posted
abbrev pub missing_in : Kept → ℕ
missing_in book = count_by is_none book.found

-- a piece is claimed
abbrev pub IsClaimed : Kept → ℕ → Type 0
IsClaimed book number = slice_get book.claimed number ≡ Some true

-- a piece isn't posted
abbrev pub IsMissing : Kept → ℕ → Type 0
IsMissing book number = slice_get book.found number ≡ Some None

-- the book with the piece claimed that is answered, if one is
abbrev pub with_claim : Kept → Option ℕ → Kept
with_claim book None = book
with_claim book (Some number) = record { case = book.case; claimed = slice_set book.claimed number true; found = book.found }

-- the book with a finding posted
abbrev pub with_finding : Kept → ℕ → Finding → Kept
with_finding book number found = record { case = book.case; claimed = book.claimed; found = slice_set book.found number (Some found) }

-- Why a finding is handed back: it is for no piece of the case; or its piece is posted already; or its piece isn't claimed.
abbrev pub IsHandedBack : Kept → Finding → Refused → Type 0
IsHandedBack book found (Stranger back) = (back ≡ found) × ((number : ℕ) → ¬ IsForPiece book.case found number)
IsHandedBack book found (Double back) =
    (back ≡ found) × ((number : ℕ) × IsForPiece book.case found number × ¬ IsMissing book number)
IsHandedBack book found (Unclaimed back) =
    (back ≡ found) × ((number : ℕ) × IsForPiece book.case found number × IsMissing book number × ¬ IsClaimed book number)

-- a finding is posted for its own piece, which is claimed and was missing
pub record IsPosted (book : Kept) (found : Finding) (after : Kept) : Type 0 where
  pub number : ℕ
  pub own : IsForPiece book.case found number
  pub was_missing : IsMissing book number
  pub was_claimed : IsClaimed book number
  pub after_is : after ≡ with_finding book number found

-- a case, what is found of its vats, and what is found of its links
pub record AllFound : Type 0 where
  pub case : Contents
  pub vats : List Found
  pub links : List Ends

-- the findings, by their pieces
abbrev pub findings_of : AllFound → List Finding
findings_of all = map finding.Vat all.vats ++ map finding.Link all.links

-- they are the findings of all pieces of a case that ties up
pub record AreAll (all : AllFound) : Type 0 where
  pub holds : IsCase all.case
  pub tied : tie_fault_of all.case ≡ None
  pub each : length (findings_of all) ≡ length (pieces_of all.case)
  pub own : (number : ℕ) (found : Finding) → slice_get (findings_of all) number ≡ Some found → IsForPiece all.case found number
