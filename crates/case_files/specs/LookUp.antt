-- Reading from a list of files.
use Rattle.std.specs.Prelude.{◌≡◌, ℕ, List, [], ◌∷◌, Option, Some, None, Ok, Err, if◌then◌else◌}
use Rattle.std.specs.Str.{bytes_eq}
use Rattle.case_files.specs.declared.source.SourceError.TheVariants.{CannotRead, OutOfMemory}
use Rattle.case_files.specs.CaseReading.{Read, Reads}

-- the bytes of the first file of this name
abbrev pub under : List (List ℕ × List ℕ) → List ℕ → Option (List ℕ)
under [] name = None
under (file ∷ files) name = if bytes_eq file.0 name then Some file.1 else under files name

-- bytes are read, and without any nothing can be
abbrev pub read_of : Option (List ℕ) → Read
read_of None = Err CannotRead
read_of (Some bytes) = Ok bytes

-- what reading a name gives
abbrev pub read_under : List (List ℕ × List ℕ) → List ℕ → Read
read_under files name = read_of (under files name)

-- What is read is these bytes, or memory ran out over them; without bytes nothing can be read.
abbrev pub IsReadInMemory : Option (List ℕ) → Read → Type 0
IsReadInMemory (Some bytes) (Ok read) = read ≡ bytes
IsReadInMemory (Some bytes) (Err OutOfMemory) = Unit {0}
IsReadInMemory None (Err CannotRead) = Unit {0}
IsReadInMemory _ _ = ⊥

-- reading a name looks it up, and leaves the list as it was
abbrev pub LooksUp : Reads (List (List ℕ × List ℕ))
LooksUp files name read after = IsReadInMemory (under files name) read × (after ≡ files)
