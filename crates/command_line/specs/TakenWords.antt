-- Words that are taken unless memory runs out, and words that are refused by their numbers. The first is the program's name.
use Rattle.std.specs.Prelude.{◌≡◌, ℕ, false, List, [], ◌∷◌, codes}
use Rattle.clap.specs.Values.{IsUnsignedIn}
use Rattle.command_line.specs.Parser.{most}
use Rattle.command_line.specs.Spelled.{IsAuditor, IsReader, is_flag}

-- the words have one of the forms of commands, and no word that stands for a file, a folder, a case or a frame begins with a
-- hyphen, but behind `--`
pub data IsTaken : List (List ℕ) → Type 0 where
  thing_alone : (first name thing : List ℕ) → IsReader name → is_flag thing ≡ false → IsTaken (first ∷ name ∷ thing ∷ [])
  thing_behind_dashes : (first name thing : List ℕ) → IsReader name → IsTaken (first ∷ name ∷ codes "--" ∷ thing ∷ [])
  check_case : (first case : List ℕ) → is_flag case ≡ false → IsTaken (first ∷ codes "check" ∷ case ∷ [])
  audited_by_workers : (first name case number : List ℕ) → IsAuditor name → is_flag case ≡ false → IsUnsignedIn 1 64 number
      → IsTaken (first ∷ name ∷ case ∷ codes "--workers" ∷ number ∷ [])
  graph_dot : (first case : List ℕ) → is_flag case ≡ false → IsTaken (first ∷ codes "graph" ∷ case ∷ codes "--dot" ∷ [])
  order_out : (first case out : List ℕ) → is_flag case ≡ false → is_flag out ≡ false → IsTaken (first ∷ codes "order" ∷ case ∷ codes "--out" ∷ out ∷ [])
  draw_out : (first case out : List ℕ) → is_flag case ≡ false → is_flag out ≡ false → IsTaken (first ∷ codes "draw" ∷ case ∷ codes "--out" ∷ out ∷ [])
  draw_part : (first case out from count : List ℕ) → is_flag case ≡ false → is_flag out ≡ false → IsUnsignedIn 0 most from → IsUnsignedIn 0 most count
      → IsTaken (first ∷ codes "draw" ∷ case ∷ codes "--out" ∷ out ∷ codes "--from" ∷ from ∷ codes "--count" ∷ count ∷ [])
  draw_workers : (first case number out : List ℕ) → is_flag case ≡ false → is_flag out ≡ false → IsUnsignedIn 1 64 number
      → IsTaken (first ∷ codes "draw" ∷ case ∷ codes "--workers" ∷ number ∷ codes "--out" ∷ out ∷ [])
  draw_page : (first case out : List ℕ) → is_flag case ≡ false → is_flag out ≡ false
      → IsTaken (first ∷ codes "draw" ∷ case ∷ codes "--html" ∷ codes "--out" ∷ out ∷ [])
  migrate_out : (first file out : List ℕ) → is_flag file ≡ false → is_flag out ≡ false → IsTaken (first ∷ codes "migrate" ∷ file ∷ codes "--out" ∷ out ∷ [])
  migrate_later : (first file out : List ℕ) → is_flag file ≡ false → is_flag out ≡ false
      → IsTaken (first ∷ codes "migrate" ∷ file ∷ codes "--later" ∷ codes "--out" ∷ out ∷ [])
  salvage_out : (first file out : List ℕ) → is_flag file ≡ false → is_flag out ≡ false → IsTaken (first ∷ codes "salvage" ∷ file ∷ codes "--out" ∷ out ∷ [])
  frame_later : (first hex : List ℕ) → is_flag hex ≡ false → IsTaken (first ∷ codes "frame" ∷ codes "--later" ∷ hex ∷ [])
  records_whole : (first file : List ℕ) → is_flag file ≡ false → IsTaken (first ∷ codes "records" ∷ file ∷ [])
  records_part : (first file from count : List ℕ) → is_flag file ≡ false → IsUnsignedIn 0 most from → IsUnsignedIn 0 most count
      → IsTaken (first ∷ codes "records" ∷ file ∷ codes "--from" ∷ from ∷ codes "--count" ∷ count ∷ [])
  wire_pair : (first one another : List ℕ) → is_flag one ≡ false → is_flag another ≡ false → IsTaken (first ∷ codes "wire" ∷ one ∷ another ∷ [])
  wire_out : (first one another out : List ℕ) → is_flag one ≡ false → is_flag another ≡ false → is_flag out ≡ false
      → IsTaken (first ∷ codes "wire" ∷ one ∷ another ∷ codes "--out" ∷ out ∷ [])
  wire_one_reference : (first one another : List ℕ) → is_flag one ≡ false → is_flag another ≡ false
      → IsTaken (first ∷ codes "wire" ∷ codes "--one-reference" ∷ one ∷ another ∷ [])
  join_out : (first one another out : List ℕ) → is_flag one ≡ false → is_flag another ≡ false → is_flag out ≡ false
      → IsTaken (first ∷ codes "join" ∷ one ∷ another ∷ codes "--out" ∷ out ∷ [])

-- the words have a form with numbers, and a word that stands for one isn't such a number
pub data HasBadNumber : List (List ℕ) → Type 0 where
  bad_workers : (first name case number : List ℕ) → IsAuditor name → is_flag case ≡ false → is_flag number ≡ false → (IsUnsignedIn 1 64 number → ⊥)
      → HasBadNumber (first ∷ name ∷ case ∷ codes "--workers" ∷ number ∷ [])
  bad_part : (first file from count : List ℕ) → is_flag file ≡ false → is_flag from ≡ false → is_flag count ≡ false
      → (IsUnsignedIn 0 most from × IsUnsignedIn 0 most count → ⊥)
      → HasBadNumber (first ∷ codes "records" ∷ file ∷ codes "--from" ∷ from ∷ codes "--count" ∷ count ∷ [])
