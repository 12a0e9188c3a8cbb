-- What a host's files and its standard input hold, as far as that is known, and what is read of them.
use Rattle.bytes.specs.Adapters.{reader_inner}
use Rattle.byte_pieces.specs.Coming.{CameSoFar}
use Rattle.byte_pieces.specs.declared.fault.PieceFault.TheVariants.{CannotRead}
use Rattle.case_files.specs.CaseReading.{Read}
use Rattle.host_files.specs.declared.folder_reader.Opened.{Opened}
use Rattle.host_files.specs.declared.folder_reader.Opened.TheVariants.{File, Input, Whole, Nothing}
use Rattle.std.specs.Prelude.{◌≡◌, ℕ, ⊤, List, [], ◌∷◌, Option, Some, None, Ok, Err, IfSome, if◌then◌else◌, nat_lt}
use Rattle.std.specs.Str.{bytes_eq}

-- the bytes that stand under a name: those of standard input under `-`, and else those of the file
abbrev pub held_under : (List ℕ → Option (List ℕ)) → Option (List ℕ) → List ℕ → Option (List ℕ)
held_under files input name = if bytes_eq name (45 ∷ []) then input else files name

-- reading gives them
abbrev pub as_read : Option (List ℕ) → Option Read
as_read None = None
as_read (Some all) = Some (Ok all)

-- what was read is what stands there, if that is known
abbrev pub IsAsHeld : Option (List ℕ) → Read → Type 0
IsAsHeld held (Ok bytes) = IfSome held (λ all. bytes ≡ all)
IsAsHeld held (Err fault) = ⊤

-- what is left of what was opened, where that is known
abbrev pub left_of : {F I : Type 0} → (F → Option (List ℕ)) → (I → Option (List ℕ)) → Opened F I → Option (List ℕ)
left_of file input (File opened) = file opened
left_of file input (Input opened) = input opened
left_of file input (Whole reader) = Some (reader_inner reader)
left_of file input Nothing = None

-- the name under which a reader was opened, if it is kept, and what came from it
pub record NamedReader : Type 0 where
  pub name : Option (List ℕ)
  pub came : CameSoFar

-- what came, so many bytes: no more can be read behind as many as a file may have
abbrev pub within : ℕ → ℕ → CameSoFar → CameSoFar
within limit count came = record came { fault = if nat_lt limit count then Some CannotRead else came.fault }
