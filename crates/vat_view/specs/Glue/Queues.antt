-- For the code's contracts, and no part of the meaning: the order in which received calls are asked.
use Rattle.std.specs.Prelude.{◌≡◌, ◌+◌, ◌*◌, ◌%◌, ◌^◌, ℕ, List, Bool, true, false, Option, Some, None, is_some}
use Rattle.std.specs.List.{fold}
use Rattle.std.specs.BTreeMap.{get}
use Rattle.std.specs.declared.cmp.Ordering.{Ordering}
use Rattle.std.specs.declared.ops.Bound.{Bound}
use Rattle.std.specs.declared.ops.Bound.TheVariants.{Included, Excluded}
use Rattle.vat_view.specs.declared.tables.turns.goal_key.GoalKey.{GoalKey}
use Rattle.vat_view.specs.declared.tables.turns.goal_key.GoalKey.TheVariants.{Nowhere, ToObject, ToPromise, ToField, ToImport}
use Rattle.vat_view.specs.declared.tables.waits.queued_call.QueuedCall.{QueuedCall}
use Rattle.vat_view.specs.declared.tables.waits.waiting_calls.Receipt.{Receipt}
use Rattle.vat_view.specs.declared.tables.waits.waiting_calls.WaitingCalls.{WaitingCalls}
use Rattle.vat_view.specs.contracts.tables.waits.queued_call.QueuedCallOrd.TheImpl as queued_order
use Rattle.vat_view.specs.Types.{View, Object, Promise, FieldOf, Import}
use Rattle.decoded_records.specs.Past.{is}

-- the digest of a path that goes on with a field
abbrev pub digest_step : ℕ → ℕ → ℕ
digest_step digest field = (digest * 1000003 % 2 ^ 64 + (field + 1)) % 2 ^ 64

-- the digest of a path
abbrev pub digest_of : List ℕ → ℕ
digest_of path = fold digest_step 0 path

-- the short form of a goal
abbrev pub goal_key_of : Option View → GoalKey
goal_key_of (Some (Object object)) = ToObject object
goal_key_of (Some (Promise reference)) = ToPromise reference
goal_key_of (Some (FieldOf call path)) = ToField call (digest_of path)
goal_key_of (Some (Import number place)) = ToImport number place
goal_key_of None = Nowhere

-- a call in the queue, by where it was received and the heading of where it goes
abbrev pub queued_under : ℕ → Receipt → GoalKey → QueuedCall
queued_under call receipt heading = record { connection = receipt.connection; heading = heading; number = receipt.number; call = call }

-- by where it goes
abbrev pub queued_at : ℕ → Receipt → Option View → QueuedCall
queued_at call receipt goal = queued_under call receipt (goal_key_of goal)

-- the order of the queue
abbrev pub queued_cmp : QueuedCall → QueuedCall → Ordering
queued_cmp = (queued_order.ghosts).cmp

-- a call stands so in the queue
abbrev pub is_queued : WaitingCalls → QueuedCall → Bool
is_queued table q = is_some (get queued_cmp table.queue q)

-- before each call that was received on a connection, has this heading, and was received by a record of this number or
-- a later one
abbrev pub ahead_of : ℕ → GoalKey → ℕ → QueuedCall
ahead_of k heading number = record { connection = k; heading = heading; number = number; call = 0 }

-- from the first call to this goal up to the first that was received by a record of this number or a later one
abbrev pub from_first : ℕ → Option View → Bound QueuedCall
from_first k goal = Included (ahead_of k (goal_key_of goal) 0)

abbrev pub up_to : ℕ → Option View → ℕ → Bound QueuedCall
up_to k goal number = Excluded (ahead_of k (goal_key_of goal) number)

-- what stands in the queue stays there
abbrev pub Stay : WaitingCalls → WaitingCalls → Type 0
Stay old new = (q : QueuedCall) → is_queued old q ≡ true → is_queued new q ≡ true

-- the same of each other call than this, if there is one
abbrev pub OthersStay : Option ℕ → WaitingCalls → WaitingCalls → Type 0
OthersStay taken old new = (q : QueuedCall) → is q.call taken ≡ false → is_queued old q ≡ true → is_queued new q ≡ true

-- a call stands so in the queue, if there is one
abbrev pub has_joined : WaitingCalls → Option QueuedCall → Bool
has_joined table (Some q) = is_queued table q
has_joined table None = true
