-- For the code's contracts, and no part of the meaning: the tables of what waits.
use Rattle.std.specs.Prelude.{◌≡◌, ◌==◌, ◌&&◌, ◌<◌, ℕ, nat_lt, Bool, true, false, Option, Some, None, if◌then◌else◌, length, option_map, option_and_then, is_some}
use Rattle.std.specs.BTreeMap.{get}
use Rattle.std.specs.Ordering.{nat_cmp}
use Rattle.number_tables.specs.declared.question.QuestionState.{QuestionState}
use Rattle.number_tables.specs.declared.exports_imports.ExportsImports.{ExportsImports}
use Rattle.number_tables.specs.declared.call_table.Calls.{Calls}
use Rattle.vat_view.specs.declared.tables.turns.goal_key.GoalKey.{GoalKey}
use Rattle.vat_view.specs.declared.tables.waits.waiting_calls.Receipt.{Receipt}
use Rattle.vat_view.specs.declared.tables.waits.waiting_calls.WaitingCalls.{WaitingCalls}
use Rattle.vat_view.specs.declared.tables.waits.queued_call.QueuedCall.{QueuedCall}
use Rattle.vat_view.specs.declared.tables.waits.loopbacks.Unechoed.{Unechoed}
use Rattle.vat_view.specs.declared.tables.waits.loopbacks.Loopbacks.{Loopbacks}
use Rattle.vat_view.specs.declared.tables.waits.embargoes.Embargoes.{Embargoes}
use Rattle.vat_view.specs.Types.{Call, Return, Exception, Canceled, DecodedRecord, Deliver, Fault, Wire, View, TableKey}
use Rattle.decoded_records.specs.Past.{Past, Point, id, is, same_id, names, record_index, last_answer}
use Rattle.decoded_records.specs.Views.{view_of_target}
use Rattle.decoded_records.specs.Calls.{goal_of, is_at_vat}
use Rattle.decoded_records.specs.Loopbacks.{sender_loopback, receiver_loopback, loopback_of}
use Rattle.decoded_records.specs.Glue.Parts.{id_cmp}
use Rattle.number_tables.specs.Glue.QuestionTables.{opening_call_in}
use Rattle.vat_view.specs.Glue.Asking.{targeted_by}
use Rattle.number_tables.specs.Glue.CallStates.{call_state_at, goal_in, same_target}
use Rattle.vat_view.specs.Glue.Queues.{goal_key_of, queued_under, queued_at, is_queued, Stay, OthersStay}

-- ---- loopbacks

-- the senderLoopback that the table has for a number
abbrev pub loopback_at : Loopbacks → TableKey → Option Unechoed
loopback_at table i = option_and_then (λ looped. looped) (get id_cmp table.entries i)

-- what its target stood for
abbrev pub loopback_target_in : Option Unechoed → Option View
loopback_target_in looped = option_and_then (λ looped. looped.target) looped

-- what is known of a senderLoopback
abbrev pub looped_at : Point → Unechoed
looped_at p = record { number = record_index p; target = view_of_target p.before p.event }

-- the table of loopbacks has what looking back finds
abbrev pub AreLooped : Past → Loopbacks → Type 0
AreLooped past table = (i : TableKey) → loopback_at table i ≡ option_map looped_at (loopback_of i past)

-- the loopback for which a record of this number asks, by the tables before it
abbrev pub looped_by : (ℕ → Option View) → ExportsImports → (TableKey → Option QuestionState) → ℕ → DecodedRecord → Option (TableKey × Unechoed)
looped_by named lives known number e = option_map (λ i. (i, record { number = number; target = targeted_by named lives known e })) (sender_loopback e)

-- the table has room for a loopback, if there is one
abbrev pub room_at : Loopbacks → Option (TableKey × Unechoed) → Bool
room_at table (Some x) = is_some (get id_cmp table.entries x.0)
room_at table None = true

-- what waits under a number once this one waits, if there is one
abbrev pub put_by : TableKey → Option (TableKey × Unechoed) → Option Unechoed → Option Unechoed
put_by i (Some x) old = if same_id i x.0 then Some x.1 else old
put_by i None old = old

-- ---- received calls that are at the vat

-- where a record receives this call, if it does
abbrev pub receipt : ℕ → Past → DecodedRecord → Option Receipt
receipt call before (Wire false k c rs (Call head target params)) = if c == call then Some (record { connection = k; number = length before }) else None
receipt call before _ = None

-- where a call was received, if it was
abbrev pub receipt_of : ℕ → Past → Option Receipt
receipt_of call past = last_answer (receipt call) past

-- the same of one that is at the vat
abbrev pub receipt_here : ℕ → Past → Option Receipt
receipt_here call past = if is_at_vat call past then receipt_of call past else None

-- what the table has of a call
abbrev pub receipt_at : WaitingCalls → ℕ → Option Receipt
receipt_at table call = option_and_then (λ receipt. receipt) (get nat_cmp table.entries call)

-- the table has what looking back finds
abbrev pub AreReceived : Past → WaitingCalls → Type 0
AreReceived past table = (call : ℕ) → receipt_at table call ≡ receipt_here call past

-- the call that a record of this number receives
abbrev pub call_received_by : ℕ → DecodedRecord → Option (ℕ × Receipt)
call_received_by number (Wire false k c rs (Call head target params)) = Some (c, record { connection = k; number = number })
call_received_by number _ = None

-- the call that a record takes from the vat, by the calls of questions
abbrev pub call_taken_by : (TableKey → Option ℕ) → DecodedRecord → Option ℕ
call_taken_by opened (Deliver c object) = Some c
call_taken_by opened (Fault c) = Some c
call_taken_by opened (Wire true k c rs (Call head target params)) = Some c
call_taken_by opened (Wire true k c rs (Return head Exception)) = opened (id k false head.answer)
call_taken_by opened (Wire true k c rs (Return head Canceled)) = opened (id k false head.answer)
call_taken_by opened _ = None

-- the table has room for a call, if there is one
abbrev pub space_at : WaitingCalls → Option (ℕ × Receipt) → Bool
space_at table (Some x) = is_some (get nat_cmp table.entries x.0)
space_at table None = true

-- the tables have room for the same calls
abbrev pub SameSpace : WaitingCalls → WaitingCalls → Type 0
SameSpace old new = (received : Option (ℕ × Receipt)) → space_at new received ≡ space_at old received

-- what the table has of a call once this one is received, if there is one
abbrev pub put_call : ℕ → Option (ℕ × Receipt) → Option Receipt → Option Receipt
put_call call (Some x) old = if x.0 == call then Some x.1 else old
put_call call None old = old

-- ---- the queue of received calls

-- how the call stands in the queue that a record of this number receives, by the tables before it
abbrev pub queued_by : (ℕ → Option View) → ExportsImports → (TableKey → Option QuestionState) → ℕ → DecodedRecord → Option QueuedCall
queued_by named lives known number e = option_map (λ x. queued_at x.0 x.1 (targeted_by named lives known e)) (call_received_by number e)

-- each received call that is at the vat stands in the queue, by what the table of calls has as its goal
abbrev pub AreQueued : WaitingCalls → Calls → Type 0
AreQueued table calls = (call : ℕ) (r : Receipt) → receipt_at table call ≡ Some r → is_queued table (queued_at call r (goal_in (call_state_at calls call))) ≡ true

-- the heading of the goal of the call that is taken, if there is one, by the table of calls before it leaves
abbrev pub heading_taken : Calls → Option ℕ → GoalKey
heading_taken calls taken = goal_key_of (option_and_then (λ call. goal_in (call_state_at calls call)) taken)

-- the call that is taken, if it was at the vat, stands under this heading in the queue no longer
abbrev pub HasLeft : Option ℕ → WaitingCalls → GoalKey → WaitingCalls → Type 0
HasLeft taken old heading new = (call : ℕ) (r : Receipt) → is call taken ≡ true → receipt_at old call ≡ Some r → is_queued new (queued_under call r heading) ≡ false

-- ---- what holds an echo up

-- whether a call with this receipt, if it has one, holds up the echo of a loopback of this connection
abbrev pub held_by : Calls → ℕ → Unechoed → ℕ → Option Receipt → Bool
held_by calls k looped call (Some r) = ((r.connection == k) && nat_lt r.number looped.number) && same_target (goal_in (call_state_at calls call)) looped.target
held_by calls k looped call None = false

-- a call of the table does
abbrev pub Holding : WaitingCalls → Calls → ℕ → Unechoed → Type 0
Holding table calls k looped =
    (call : ℕ) × (r : Receipt) × (receipt_at table call ≡ Some r) × (r.connection ≡ k) × (r.number < looped.number) × (goal_in (call_state_at calls call) ≡ looped.target)

-- ---- both tables

-- what a record changes of what waits: the loopback for which it asks, the number that it echoes, the call that it
-- receives and the call that it takes from the vat
pub record Change : Type 0 where
  pub looped : Option (TableKey × Unechoed)
  pub echoed : Option TableKey
  pub received : Option (ℕ × Receipt)
  pub taken : Option ℕ

-- what a record of this number changes, by the tables before it
abbrev pub change_by : (ℕ → Option View) → ExportsImports → (TableKey → Option QuestionState) → ℕ → DecodedRecord → Change
change_by named lives known number e = record {
  looped = looped_by named lives known number e;
  echoed = receiver_loopback e;
  received = call_received_by number e;
  taken = call_taken_by (λ q. opening_call_in (known q)) e;
}

-- what a record of this number changes that asks for no echo and takes this call from the vat
abbrev pub change_of_calls : ℕ → DecodedRecord → Option ℕ → Change
change_of_calls number e taken = record { looped = None; echoed = receiver_loopback e; received = call_received_by number e; taken = taken }

-- what a record changes that asks for the echo of this loopback
abbrev pub change_of_loopbacks : Option (TableKey × Unechoed) → Change
change_of_loopbacks looped = record { looped = looped; echoed = None; received = None; taken = None }

-- they say the same
pub record SaysSame (old : Embargoes) (new : Embargoes) : Type 0 where
  pub looped : (i : TableKey) → loopback_at new.loopbacks i ≡ loopback_at old.loopbacks i
  pub received : (call : ℕ) → receipt_at new.inbox call ≡ receipt_at old.inbox call
  pub queued : Stay old.inbox new.inbox

-- they were changed so
pub record IsChangedBy (change : Change) (old : Embargoes) (new : Embargoes) : Type 0 where
  pub looped : (i : TableKey) → loopback_at new.loopbacks i ≡ (if names i change.echoed then None else put_by i change.looped (loopback_at old.loopbacks i))
  pub received : (call : ℕ) → receipt_at new.inbox call ≡ (if is call change.taken then None else put_call call change.received (receipt_at old.inbox call))
  pub queued : OthersStay change.taken old.inbox new.inbox

-- they have what looking back finds
pub record AreWaiting (past : Past) (waits : Embargoes) : Type 0 where
  pub looped : AreLooped past waits.loopbacks
  pub received : AreReceived past waits.inbox
  pub queued : (call : ℕ) (r : Receipt) → receipt_here call past ≡ Some r → is_queued waits.inbox (queued_at call r (goal_of call past)) ≡ true
