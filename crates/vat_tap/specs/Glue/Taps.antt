-- For the code's contracts, and no part of the meaning: what a lane and a tap keep true of their fields, and records put in the
-- order of their tickets.
use Rattle.std.specs.Prelude.{◌≡◌, ℕ, ◌+◌, ◌*◌, ◌<◌, ◌≤◌, Bool, true, false, All, Some, slice_get, slice_index_or, List, [], ◌++◌, length, map}
use Rattle.std.specs.List.{fold, slice_set}
use Rattle.std.specs.List.Sorted.{IsStrictlyIncreasing}
use Rattle.std.specs.declared.alloc.Global.{Global}
use Rattle.atomic_table.specs.Seated.{TableId}
use Rattle.atomic_table.specs.Table.{Me}
use Rattle.rtrb.specs.Ring.{sent, producer_capacity, consumer_capacity}
use Rattle.rtrb.specs.declared.producer.Producer.{Producer}
use Rattle.rtrb.specs.declared.consumer.Consumer.{Consumer}
use Rattle.vat_log.specs.declared.body.Body.{Body}
use Rattle.vat_log.specs.declared.version.LogVersion.{LogVersion}
use Rattle.vat_log.specs.Log.{written_version, later_version}
use Rattle.vat_tap.specs.declared.ticket_word.SeatKnowledge.{SeatKnowledge}
use Rattle.vat_tap.specs.Glue.Rule.{view}
use Rattle.vat_tap.specs.Tickets.{Ticketed, Ring, LaneView, tickets_of, share_of}

-- the version of the log that a tap writes, by whether its runtime speaks the later edition of rpc.capnp
abbrev pub version_by : Bool → LogVersion
version_by true = later_version
version_by false = written_version

module _ {P : Type 0} where
  abbrev pub ring_of : Consumer Ticketed Global P → Ring
  ring_of ring = record { words = ring.end.words; slots = ring.end.slots; names = ring.end.names; heap = ring.end.heap; room = consumer_capacity ring }

  abbrev pub sending : Producer Ticketed Global P → Ring
  sending ring = record { words = ring.end.words; slots = ring.end.slots; names = ring.end.names; heap = ring.end.heap; room = producer_capacity ring }

  abbrev pub lane_view : TableId → ℕ → ℕ → Producer Ticketed Global P → LaneView
  lane_view word number share ring = record {
    word = word;
    number = number;
    share = share;
    ring = sending ring;
    recorded = sent ring;
  }

  -- What a lane knows: its seat is at its ticket word and has the tickets of what the lane recorded, and they rise.
  pub record IsLane (table word : TableId) (me : Me (Unit {0}) SeatKnowledge) (recorded share : ℕ) (ring : Producer Ticketed Global P) : Type 0 where
    pub at : word ≡ table
    pub words : word.words ≡ 31
    pub seat : me ≡ (view share share (tickets_of (sent ring)), [])
    pub count : recorded ≡ length (sent ring)
    pub within : recorded ≤ share
    pub most : share ≤ 1048576
    pub rising : IsStrictlyIncreasing (tickets_of (sent ring))

-- so many more, behind those that were there
abbrev pub Goes : List Ticketed → List Ticketed → ℕ → Type 0
Goes before after count = (more : List Ticketed) × (after ≡ before ++ more) × (length more ≡ count)

-- What a tap knows: its seat is at its ticket word, and has all the room but the shares of the lanes.
pub record IsTap (table word : TableId) (me : Me (Unit {0}) SeatKnowledge) (lanes : ℕ) : Type 0 where
  pub few : lanes ≤ 64
  pub at : word ≡ table
  pub words : word.words ≡ 31
  pub share : me.0.share ≡ share_of lanes
  pub room : me.0.room + lanes * share_of lanes ≡ 1048576
  pub tickets : me.0.tickets ≡ []
  pub slots : me.1 ≡ []

-- each of these lanes has its ring among these, at its number
abbrev pub HaveRings : List Ring → List LaneView → Type 0
HaveRings rings lanes = All (λ lane. slice_get rings lane.number ≡ Some lane.ring) lanes

-- what each of these lanes recorded was taken, and stands at its number
abbrev pub AreTaken : List (List Ticketed) → List LaneView → Type 0
AreTaken taken lanes = All (λ lane. slice_get taken lane.number ≡ Some lane.recorded) lanes

-- lanes of one ticket word that are new, each with its ring at its number
pub record AreNew (word : TableId) (share slots : ℕ) (rings : List Ring) (lanes : List LaneView) : Type 0 where
  pub count : length lanes ≡ length rings
  pub each : All (λ lane. (lane.word ≡ word) × (lane.share ≡ share) × (lane.ring.room ≡ slots) × (lane.recorded ≡ []) × (slice_get rings lane.number ≡ Some lane.ring)) lanes
  pub numbers : (k : ℕ) (d : LaneView) → k < length lanes → (slice_index_or lanes k d).number ≡ k

-- Of each lane before this one at most so many records more were taken as its ring has slots, and of the others none.
abbrev pub TakesUpTo : ℕ → List Ring → List (List Ticketed) → List (List Ticketed) → Type 0
TakesUpTo index rings before after = (lane : ℕ) (ring : Ring) → slice_get rings lane ≡ Some ring →
    (length (slice_index_or after lane []) ≤ length (slice_index_or before lane []) + ring.room)
    × (index ≤ lane → slice_index_or after lane [] ≡ slice_index_or before lane [])

-- each record put at its ticket, one after another
abbrev pub put : List Body → List Ticketed → List Body
put records items = fold (λ now item. slice_set now item.0 item.1) records items

-- As many places as there are records, and each put at its ticket.
abbrev pub in_ticket_order : List Ticketed → List Body
in_ticket_order items = put (map (λ item. item.1) items) items
