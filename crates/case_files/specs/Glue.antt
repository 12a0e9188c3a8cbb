-- This file serves the contracts of private functions alone, and is no part of the meaning.
use Rattle.std.specs.Prelude.{◌≡◌, ◌≢◌, ◌⊎◌, ◌+◌, ◌<◌, ◌≤◌, ℕ, List, length, slice_get, Option, Some, None, Result, Ok, Err}
use Rattle.serde_json.specs.Data.{Data, depth}
use Rattle.case_files.specs.declared.case_fault.CaseFault.{CaseFault}
use Rattle.case_files.specs.declared.case_fault.CaseFault.TheVariants.{Form, OutOfMemory}
use Rattle.case_book.specs.declared.link.Link.{Link}
use Rattle.case_files.specs.CaseFile.{listed_in}
use Rattle.case_files.specs.FileNames.{case_name}

-- an answer, seen by view, is what was said; `Form` where nothing was
abbrev pub TellsInMemory : {A B : Type 0} → (A → B) → Result A CaseFault → Option B → Type 0
TellsInMemory view (Ok x) said = said ≡ Some (view x)
TellsInMemory view (Err OutOfMemory) said = Unit {0}
TellsInMemory view (Err Form) said = said ≡ None
TellsInMemory view (Err _) said = ⊥

-- a JSON value nests so little that its text is read again
abbrev pub IsShallow : ℕ → Data → Type 0
IsShallow limit d = depth d ≤ limit

-- a JSON value says a case file with these logs and links and no order
pub record SaysCase (d : Data) (logs : List (List ℕ)) (links : List Link) : Type 0 where
  pub says : listed_in d ≡ Some (record { logs = logs; links = links; order = None })
  pub shallow : IsShallow 3 d

-- a name stands in a list from a place on, or is that of the case file
abbrev pub IsNameTaken : List (List ℕ) → ℕ → List ℕ → Type 0
IsNameTaken names begin name = (name ≡ case_name) ⊎ ((k : ℕ) × (begin ≤ k) × (slice_get names k ≡ Some name))

-- it doesn't stand from a place on and before another
abbrev pub IsNotBefore : List (List ℕ) → List ℕ → ℕ → ℕ → Type 0
IsNotBefore names name begin limit = (k : ℕ) → begin ≤ k → k < limit → slice_get names k ≡ Some name → ⊥

-- nor is it that of the case file
abbrev pub IsFree : List (List ℕ) → ℕ → List ℕ → Type 0
IsFree names begin name = (name ≢ case_name) × IsNotBefore names name begin (length names)

-- no name before a place stands behind itself once more, or is that of the case file
abbrev pub NamesAreApartUpTo : List (List ℕ) → ℕ → Type 0
NamesAreApartUpTo names place = (k : ℕ) → k < place → (name : List ℕ) → slice_get names k ≡ Some name → IsFree names (k + 1) name
