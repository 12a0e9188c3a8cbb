-- For the code's contracts, and no part of the meaning: where texts and records end in the bytes of a log that is written.
use Rattle.std.specs.Prelude.{◌≡◌, ℕ, ◌<◌, ◌≤◌, List, ◌++◌, length, take, slice_index_or}
use Rattle.vat_log.specs.declared.body.Body.{Body}
use Rattle.vat_log.specs.Log.{written_version}
use Rattle.vat_log.specs.Spelling.{record_bytes}

-- the bytes before this place end with this text
pub record EndsWith (bytes : List ℕ) (end : ℕ) (text : List ℕ) : Type 0 where
  pub within : end ≤ length bytes
  pub front : List ℕ
  pub parts : take end bytes ≡ front ++ text

-- each of these places is the end of the record of its number
abbrev pub AreEnds : List ℕ → List Body → List ℕ → Type 0
AreEnds bytes records ends = (k : ℕ) (d : Body) → k < length ends →
    EndsWith bytes (slice_index_or ends k 0) (record_bytes written_version (slice_index_or records k d))
