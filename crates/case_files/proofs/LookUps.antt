-- Files in a list, looked at one by one.
use Rattle.std.proofs.Common.{◌≡◌, ℕ, List, map, drop, String, Global, string_bytes}
use Rattle.case_files.specs.LookUp.{under}

-- the files before an index have other names
abbrev pub Passed : List (String Global × List ℕ) → ℕ → List ℕ → Type 0
Passed files i name = under (map (λ file. (string_bytes file.0, file.1)) files) name ≡ under (map (λ file. (string_bytes file.0, file.1)) (drop i files)) name
