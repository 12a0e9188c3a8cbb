-- The names that files get which are written to one folder, beside their case file.
use Rattle.std.specs.Prelude.{◌≡◌, ◌≢◌, ℕ, ◌<◌, suc, List, ◌++◌, length, codes, Option, Some, slice_get}
use Rattle.std.specs.Fmt.{decimal}
use Rattle.std.specs.Path.{path_file_name}
use Rattle.case_files.specs.CaseFile.{value_of_each}

-- the names that files of these paths have, if each has one
abbrev pub own_names : List (List ℕ) → Option (List (List ℕ))
own_names paths = value_of_each path_file_name paths

-- the name of the case file
abbrev pub case_name : List ℕ
case_name = codes "case.json"

-- no two names are the same, and none is that of the case file
pub record AreApart (names : List (List ℕ)) : Type 0 where
  pub distinct : (i j : ℕ) (name : List ℕ) → slice_get names i ≡ Some name → slice_get names j ≡ Some name → i ≡ j
  pub no_case : (i : ℕ) (name : List ℕ) → slice_get names i ≡ Some name → name ≢ case_name

-- the names `1.log`, `2.log` and so on, so many of them
pub record IsCounted (many : ℕ) (names : List (List ℕ)) : Type 0 where
  pub count : length names ≡ many
  pub each_name : (i : ℕ) → i < many → slice_get names i ≡ Some (decimal (suc i) ++ codes ".log")

-- the names that files of these paths have, where they can stand in one folder; and else counted ones
pub record AreFileNames (paths names : List (List ℕ)) : Type 0 where
  pub own : (found : List (List ℕ)) → own_names paths ≡ Some found → AreApart found → names ≡ found
  pub counted : ((found : List (List ℕ)) → own_names paths ≡ Some found → AreApart found → ⊥) → IsCounted (length paths) names
