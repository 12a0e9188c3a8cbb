-- For the code's contracts, and no part of the meaning: numbers that are the one before them, and places for findings.
use Rattle.std.specs.Prelude.{◌≡◌, ◌≢◌, ℕ, ◌+◌, ◌<◌, ◌≤◌, ◌==◌, List, [], ◌∷◌, length, Option, Some, None, false, if◌then◌else◌, slice_get}
use Rattle.std.specs.Option.{option_map_or}
use Rattle.vat_rules.specs.Audit.{Found}
use Rattle.link_check.specs.Prefix.{Ends}
use Rattle.case_book.specs.declared.piece_finding.Finding.{Finding}
use Rattle.case_book.specs.declared.piece_finding.Finding.TheVariants as finding

-- the first number that is the one before it, the first of all after another, if there is one
abbrev pub first_same : Option ℕ → List ℕ → Option ℕ
first_same previous [] = None
first_same previous (n ∷ ns) = if option_map_or (λ m. m == n) previous false then Some n else first_same (Some n) ns

-- every place has a finding, those of vats before those of links, and there are so many places of each
pub record ArePlaced (found : List (Option Finding)) (vats links : ℕ) : Type 0 where
  pub each : length found ≡ vats + links
  pub whole : (number : ℕ) → slice_get found number ≢ Some None
  pub vat_first : (number : ℕ) (audited : Found) → slice_get found number ≡ Some (Some (finding.Vat audited)) → number < vats
  pub link_behind : (number : ℕ) (compared : Ends) → slice_get found number ≡ Some (Some (finding.Link compared)) → vats ≤ number
