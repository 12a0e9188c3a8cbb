-- For the code's contracts, and no part of the meaning: what is kept of links.
use Rattle.std.specs.Prelude.{◌≡◌, ℕ, ◌==◌, ◌&&◌, ◌||◌, Bool, not, List, [], Option, Some, None, if◌then◌else◌, min, max}
use Rattle.std.specs.BTreeMap.{get}
use Rattle.std.specs.Option.{option_map, option_or}
use Rattle.std.specs.Ordering.{nat_cmp}
use Rattle.vat_log.specs.Passages.{sends_frame, receives_frame}
use Rattle.vat_log.specs.declared.body.Body.{Body}
use Rattle.vat_log.specs.declared.body.Body.TheVariants.{Send, Receive}
use Rattle.lock_step.specs.Directions.{BothWays, with_received_by, with_sent_by}
use Rattle.lock_step.specs.declared.link_end.LinkEnd.{LinkEnd}
use Rattle.lock_step.specs.declared.link_end.LinkEnd.TheVariants.{First, Second}
use Rattle.turn_taking.specs.Turns.{Turns}
use Rattle.case_book.specs.declared.link.Link.{Link}
use Rattle.lock_step.specs.declared.link_state.LinkState.{LinkState}
use Rattle.lock_step.specs.declared.link_table.LinkTable.{LinkTable}
use Rattle.lock_step.specs.Links.{link_on, ways_of}

-- ---- one link

-- the end at which a vat is, of the two
abbrev pub end_of : ℕ → ℕ → ℕ → Option LinkEnd
end_of first second vat = if vat == first then Some First else (if vat == second then Some Second else None)

-- with the frame of one more record, of the vat at this end
abbrev pub ways_with_record : LinkEnd → Body → BothWays → BothWays
ways_with_record end (Send connection call references frame) ways = with_sent_by end frame ways
ways_with_record end (Receive connection call references frame) ways = with_received_by end frame ways
ways_with_record end body ways = ways

-- the same, where the vat is at an end
abbrev pub with_record_at : Option LinkEnd → Body → BothWays → BothWays
with_record_at None body ways = ways
with_record_at (Some end) body ways = ways_with_record end body ways

-- a link once a vat took one more record that passes a frame on its connection
abbrev pub link_with_turn : ℕ → Body → LinkState → LinkState
link_with_turn vat body state = record state { queues = with_record_at (end_of state.first state.second vat) body state.queues }

-- a link of these ends, as far as these turns were taken
abbrev pub state_of : Turns → Link → LinkState
state_of turns link = record {
  first = min link.a link.b;
  second = max link.a link.b;
  queues = ways_of link.connection (min link.a link.b) (max link.a link.b) turns;
}

-- ---- all links

-- what is kept of a connection
abbrev pub state_on : LinkTable → ℕ → Option LinkState
state_on table k = get nat_cmp table.states k

-- a record passes a frame on the connection
abbrev pub passes_on : ℕ → Body → Bool
passes_on k body = sends_frame k body || receives_frame k body

-- a vat took a record: it changes the link of the connection on which it passes a frame
abbrev pub IsLinkPassed : ℕ → Body → LinkTable → LinkTable → Type 0
IsLinkPassed vat body old new = (k : ℕ) → state_on new k ≡ (if passes_on k body then option_map (link_with_turn vat body) (state_on old k) else state_on old k)

-- a link is added, if its ends are two vats and its connection has none yet
abbrev pub IsAdded : Link → LinkTable → LinkTable → Type 0
IsAdded link old new =
    (k : ℕ) → state_on new k ≡ option_or (state_on old k) (if (link.connection == k) && not (link.a == link.b) then Some (state_of [] link) else None)

-- the same is kept of each connection
abbrev pub AreSameStates : LinkTable → LinkTable → Type 0
AreSameStates old new = (k : ℕ) → state_on new k ≡ state_on old k

-- the link of each connection is kept, as far as these turns were taken
abbrev pub AreStates : List Link → Turns → LinkTable → Type 0
AreStates links turns table = (k : ℕ) → state_on table k ≡ option_map (state_of turns) (link_on links k)
