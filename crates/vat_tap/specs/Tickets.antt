-- Tickets and lanes: what threads recorded through a tap, and the log that comes of it.
use Rattle.std.specs.Prelude.{◌≡◌, ℕ, ◌+◌, ◌<◌, ◌≤◌, ◌/◌, ◌==◌, nat_lt, if◌then◌else◌, List, [], length, map, slice_get, slice_index_or, Some, All}
use Rattle.std.specs.List.{sum_by}
use mathlib.Core.List.{IsPrefix}
use Rattle.std.specs.List.Sorted.{IsStrictlyIncreasing}
use Rattle.std.specs.declared.alloc.Global.{Global}
use denote.RawPtr.{Ptr}
use Rattle.atomic_table.specs.Seated.{TableId}
use Rattle.rtrb.specs.Shared.{Names}
use Rattle.vat_log.specs.declared.body.Body.{Body}
use Rattle.vat_log.specs.declared.version.LogVersion.{LogVersion}
use Rattle.vat_log.specs.Log.{Log}

-- how often a ticket is among these
abbrev pub times : ℕ → List ℕ → ℕ
times ticket tickets = sum_by (λ n. if n == ticket then 1 else 0) tickets

-- once below the bound, else never
abbrev pub once_below : ℕ → ℕ → ℕ
once_below bound ticket = if nat_lt ticket bound then 1 else 0

-- a ticket, counted from 0, and the record that it was given for
abbrev pub Ticketed : Type 0
Ticketed = ℕ × Body

abbrev pub tickets_of : List Ticketed → List ℕ
tickets_of recorded = map (λ item. item.0) recorded

-- which ring it is, and how many slots it has
pub record Ring : Type 0 where
  pub words : Ptr
  pub slots : Ptr
  pub names : Names
  pub heap : Global
  pub room : ℕ

-- a lane: the ticket word that it draws from, its number among the lanes of its tap, counted from 0, how many records it may
-- record, its ring, and what it recorded, in the order in which it did
pub record LaneView : Type 0 where
  pub word : TableId
  pub number : ℕ
  pub share : ℕ
  pub ring : Ring
  pub recorded : List Ticketed

-- a tap: the version of its log, its vat, its ticket word, the ring of each lane, and what it took from each, in the order
-- in which it did
pub record TapView : Type 0 where
  pub version : LogVersion
  pub vat : ℕ
  pub word : TableId
  pub rings : List Ring
  pub taken : List (List Ticketed)

-- how many records each of so many lanes may record
abbrev pub share_of : ℕ → ℕ
share_of lanes = 1048576 / lanes

-- the lane is one of the tap's
pub record IsLaneOf (tap : TapView) (lane : LaneView) : Type 0 where
  pub word : lane.word ≡ tap.word
  pub share : lane.share ≡ share_of (length tap.rings)
  pub ring : slice_get tap.rings lane.number ≡ Some lane.ring

-- the tap and its lanes as they were opened
pub record IsOpened (format : LogVersion) (number lanes ring : ℕ) (tap : TapView) (opened : List LaneView) : Type 0 where
  pub version : tap.version ≡ format
  pub vat : tap.vat ≡ number
  pub rings : length tap.rings ≡ lanes
  pub count : length opened ≡ lanes
  pub mine : All (IsLaneOf tap) opened
  pub numbers : (k : ℕ) (d : LaneView) → k < length opened → (slice_index_or opened k d).number ≡ k
  pub room : All (λ lane. lane.ring.room ≡ ring) opened
  pub empty : All (λ lane. lane.recorded ≡ []) opened
  pub intakes : length tap.taken ≡ lanes
  pub nothing : All (λ taken. taken ≡ []) tap.taken

-- The log is of this version, and of the vat of this number. Of as many tickets as it has records, counted from 0, each
-- was given once in all lanes together, and no other was. The record of each stands in the log at its ticket. Each lane's
-- tickets rise in the order in which it recorded.
pub record IsTaped (format : LogVersion) (number : ℕ) (lanes : List LaneView) (log : Log) : Type 0 where
  pub version : log.version ≡ format
  pub vat : log.vat ≡ number
  pub once : (ticket : ℕ) → sum_by (λ lane. times ticket (tickets_of lane.recorded)) lanes ≡ once_below (length log.records) ticket
  pub placed : All (λ lane. All (λ item. slice_get log.records item.0 ≡ Some item.1) lane.recorded) lanes
  pub rising : All (λ lane. IsStrictlyIncreasing (tickets_of lane.recorded)) lanes

-- No two have one number.
abbrev pub AreDifferent : List LaneView → Type 0
AreDifferent lanes = (i j : ℕ) (d : LaneView) → i < length lanes → j < length lanes → (slice_index_or lanes i d).number ≡ (slice_index_or lanes j d).number → i ≡ j

-- the same lane, whatever it recorded
pub record SameLane (old new : LaneView) : Type 0 where
  pub word : new.word ≡ old.word
  pub number : new.number ≡ old.number
  pub share : new.share ≡ old.share
  pub ring : new.ring ≡ old.ring

-- the same tap, whatever it took
pub record SameTap (old new : TapView) : Type 0 where
  pub version : new.version ≡ old.version
  pub vat : new.vat ≡ old.vat
  pub word : new.word ≡ old.word
  pub rings : new.rings ≡ old.rings

-- Of each lane there is what was taken before, and more behind it or nothing.
pub record TakesOn (before after : List (List Ticketed)) : Type 0 where
  pub lanes : length after ≡ length before
  pub each : (lane : ℕ) → lane < length before → IsPrefix (slice_index_or before lane []) (slice_index_or after lane [])

-- Of each lane at most so many records more were taken as its ring has slots.
abbrev pub TakesAtMost : List Ring → List (List Ticketed) → List (List Ticketed) → Type 0
TakesAtMost rings before after = (lane : ℕ) (ring : Ring) → slice_get rings lane ≡ Some ring → length (slice_index_or after lane []) ≤ length (slice_index_or before lane []) + ring.room
