-- For the code's contracts, and no part of the meaning: the new numbers of the connections of one log.
use Rattle.std.specs.Prelude.{◌≡◌, ◌⊎◌, ℕ, ◌+◌, ◌<◌, ◌≤◌, List, length, Some, None, unwrap_or, slice_get}
use Rattle.std.specs.BTreeMap.{BTreeMap, get}
use Rattle.std.specs.Ordering.{nat_cmp}
use Rattle.vat_log.specs.Log.{Log}
use Rattle.log_ends.specs.Joining.{Has}
use Rattle.log_ends.specs.Renumbering.{IsRenumbered, end_in}
use Rattle.log_ends.specs.declared.log_end.LogEnd.{LogEnd}
use Rattle.log_ends.specs.declared.log_end.EndPair.{EndPair}

-- the new number of a connection
abbrev pub new_number_of : BTreeMap ℕ ℕ → ℕ → ℕ
new_number_of table connection = unwrap_or (get nat_cmp table connection) 0

-- an end has this number from now on, if it is in the log at this place
pub record PutsEnd (place : ℕ) (end : LogEnd) (number : ℕ) (old new : BTreeMap ℕ ℕ) : Type 0 where
  pub just : (connection now : ℕ) → get nat_cmp new connection ≡ Some now → (get nat_cmp old connection ≡ Some now) ⊎ ((end ≡ end_in place connection) × (now ≡ number))
  pub there : (connection : ℕ) → end ≡ end_in place connection → get nat_cmp new connection ≡ None → ⊥
  pub keeps : (connection : ℕ) → (get nat_cmp old connection ≡ None → ⊥) → get nat_cmp new connection ≡ None → ⊥

-- a table has the numbers of the pairs with an end in the log at a place, as far as pairs before a limit go
pub record AreNumbers (pairs : List EndPair) (place limit : ℕ) (table : BTreeMap ℕ ℕ) : Type 0 where
  pub just : (connection number : ℕ) → get nat_cmp table connection ≡ Some number → Has pairs number (end_in place connection)
  pub all : (connection number : ℕ) → number < limit → Has pairs number (end_in place connection) → get nat_cmp table connection ≡ None → ⊥

-- the log at this place has this vat
abbrev pub HasVatAt : List Log → ℕ → ℕ → Type 0
HasVatAt logs place vat = (log : Log) × (slice_get logs place ≡ Some log) × (log.vat ≡ vat)

-- no log from a place on and before another has this vat
abbrev pub HasNoVat : List Log → ℕ → ℕ → ℕ → Type 0
HasNoVat logs vat begin limit = (k : ℕ) → begin ≤ k → k < limit → HasVatAt logs k vat → ⊥

-- the logs before a place, with other numbers
pub record AreMade (logs : List Log) (pairs : List EndPair) (place : ℕ) (made : List Log) : Type 0 where
  pub count : length made ≡ place
  pub each : (k : ℕ) (old new : Log) → slice_get logs k ≡ Some old → slice_get made k ≡ Some new → IsRenumbered logs pairs k old new

-- no log before a place has the same vat as a later one
abbrev pub AreApartUpTo : List Log → ℕ → Type 0
AreApartUpTo logs place = (k : ℕ) → k < place → (log : Log) → slice_get logs k ≡ Some log → HasNoVat logs log.vat (k + 1) (length logs)
