-- For the code's contracts, and no part of the meaning: which vats are ready to be tried, and which wait for a frame.
use Rattle.std.specs.Prelude.{◌≡◌, ℕ, ◌<◌, ◌==◌, ◌||◌, Bool, true, false, List, [], map, Option, Some, None, unwrap_or, slice_get}
use Rattle.std.specs.List.{list_any}
use Rattle.std.specs.List.Sorted.{IsStrictlyIncreasing}
use Rattle.std.specs.Option.{option_map}
use Rattle.std.specs.Ordering.{nat_cmp}
use Rattle.std.specs.BTreeMap.{get}
use Rattle.std.specs.BTreeSet.{contains, btree_set_len}
use Rattle.vat_log.specs.declared.body.Body.{Body}
use Rattle.vat_log.specs.declared.body.Body.TheVariants.{Send, Receive}
use Rattle.merge_order.specs.Fits.{Part, part_of, may_come}
use Rattle.merge_order.specs.declared.ready_vats.ReadyVats.{ReadyVats}
use Rattle.merge_order.specs.declared.waiting_vats.WaitingVats.{WaitingVats}

-- a vat is ready to be tried
abbrev pub is_ready : ReadyVats → ℕ → Bool
is_ready ready vat = contains nat_cmp ready.vats vat

-- how many vats are ready to be tried
abbrev pub ready_count : ReadyVats → ℕ
ready_count ready = btree_set_len ready.vats

-- the vats that wait on a connection
abbrev pub waiting_on : WaitingVats → ℕ → List ℕ
waiting_on waiting connection = unwrap_or (option_map (λ vats. vats.items) (get nat_cmp waiting.vats connection)) []

-- a vat waits on a connection
abbrev pub waits : WaitingVats → ℕ → ℕ → Bool
waits waiting connection vat = list_any (λ other. other == vat) (waiting_on waiting connection)

-- the next record of a part, where there is one
abbrev pub next_from : Option Part → Option Body
next_from None = None
next_from (Some own) = slice_get own.log.records own.came

-- the next record of a vat
abbrev pub next_of : ℕ → List Part → Option Body
next_of vat parts = next_from (part_of vat parts)

-- the connection on which a record receives a frame
abbrev pub awaited_connection : Option Body → Option ℕ
awaited_connection (Some (Receive connection call references frame)) = Some connection
awaited_connection _ = None

-- the connection on which a record sends a frame
abbrev pub sent_by : Option Body → Option ℕ
sent_by (Some (Send connection call references frame)) = Some connection
sent_by _ = None

-- what a schedule keeps: a vat whose next record may come is ready, and one whose next record is a RECV is ready or waits on
-- its connection
pub record IsQueued (parts : List Part) (ready : ReadyVats) (waiting : WaitingVats) : Type 0 where
  pub rising : IsStrictlyIncreasing (map (λ part. part.log.vat) parts)
  pub comes : (vat : ℕ) → may_come parts vat ≡ true → is_ready ready vat ≡ true
  pub awaits : (vat connection : ℕ) → awaited_connection (next_of vat parts) ≡ Some connection → (is_ready ready vat || waits waiting connection vat) ≡ true

-- a vat that was tried waits now, where its next record is a RECV
pub record IsPutOff (parts : List Part) (vat : ℕ) (old new : WaitingVats) : Type 0 where
  pub stays : (connection other : ℕ) → waits old connection other ≡ true → waits new connection other ≡ true
  pub own : (connection : ℕ) → awaited_connection (next_of vat parts) ≡ Some connection → waits new connection vat ≡ true

-- the vats that waited on the connection on which a frame was sent, if one was, are ready
pub record IsWoken (sent : Option ℕ) (ready later : ReadyVats) (waiting left : WaitingVats) : Type 0 where
  pub still : (vat : ℕ) → is_ready ready vat ≡ true → is_ready later vat ≡ true
  pub woken : (connection vat : ℕ) → sent ≡ Some connection → waits waiting connection vat ≡ true → is_ready later vat ≡ true
  pub apart : (connection vat : ℕ) → (sent ≡ Some connection → ⊥) → waits waiting connection vat ≡ true → waits left connection vat ≡ true

-- the smallest vat number whose next record may come
abbrev pub IsFirstToCome : List Part → Option ℕ → Type 0
IsFirstToCome parts None = (vat : ℕ) → may_come parts vat ≡ false
IsFirstToCome parts (Some least) = (may_come parts least ≡ true) × ((vat : ℕ) → vat < least → may_come parts vat ≡ false)

-- the same, with the vat that comes first
pub record IsScheduled (parts : List Part) (ready : ReadyVats) (waiting : WaitingVats) (first : Option ℕ) : Type 0 where
  pub queued : IsQueued parts ready waiting
  pub least : IsFirstToCome parts first
