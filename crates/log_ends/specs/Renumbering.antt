-- Logs with other numbers: each pair of ends has a number of its own, and each log a vat of its own.
use Rattle.std.specs.Prelude.{◌≡◌, ℕ, suc, List, length, map, Some, slice_get}
use Rattle.vat_log.specs.Log.{Log}
use Rattle.vat_log.specs.Migrated.{migrated_version}
use Rattle.vat_log.specs.declared.body.Body.{Body}
use Rattle.vat_log.specs.declared.body.Body.TheVariants.{Send, Receive}
use Rattle.log_ends.specs.Ends.{IsEnd}
use Rattle.log_ends.specs.Joining.{Has}
use Rattle.log_ends.specs.declared.log_end.LogEnd.{LogEnd}
use Rattle.log_ends.specs.declared.log_end.EndPair.{EndPair}

-- the same record, with another number of its connection
abbrev pub renumbered_body : (ℕ → ℕ) → Body → Body
renumbered_body number (Send connection call references frame) = Send (number connection) call references frame
renumbered_body number (Receive connection call references frame) = Receive (number connection) call references frame
renumbered_body number body = body

-- the same log, with other numbers of its connections and this vat; one of version 1 becomes one of version 2
abbrev pub renumbered_log : (ℕ → ℕ) → ℕ → Log → Log
renumbered_log number vat log = record { version = migrated_version log.version; vat = vat; records = map (renumbered_body number) log.records }

-- no two logs have the same vat
abbrev pub VatsAreApart : List Log → Type 0
VatsAreApart logs = (i j : ℕ) (one other : Log) → slice_get logs i ≡ Some one → slice_get logs j ≡ Some other → one.vat ≡ other.vat → i ≡ j

-- the vat of the log at this place: its own where no two logs have the same, and else its place counted from 1
pub record IsVatAt (logs : List Log) (place vat : ℕ) : Type 0 where
  pub own : VatsAreApart logs → (log : Log) → slice_get logs place ≡ Some log → vat ≡ log.vat
  pub counted : (VatsAreApart logs → ⊥) → vat ≡ suc place

-- the end of a connection in the log at a place
abbrev pub end_in : ℕ → ℕ → LogEnd
end_in place connection = record { log = place; connection = connection }

-- the log at this place with other numbers: each of its connections has the number of the pair that has this end of it
pub record IsRenumbered (logs : List Log) (pairs : List EndPair) (place : ℕ) (old new : Log) : Type 0 where
  pub number : ℕ → ℕ
  pub vat : ℕ
  pub of_pairs : (connection : ℕ) → IsEnd logs (end_in place connection) → Has pairs (number connection) (end_in place connection)
  pub is_vat : IsVatAt logs place vat
  pub same : new ≡ renumbered_log number vat old

-- each log with other numbers, in the same order
pub record AreRenumbered (logs : List Log) (pairs : List EndPair) (made : List Log) : Type 0 where
  pub count : length made ≡ length logs
  pub each : (place : ℕ) (old new : Log) → slice_get logs place ≡ Some old → slice_get made place ≡ Some new → IsRenumbered logs pairs place old new
