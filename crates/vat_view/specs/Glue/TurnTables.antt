-- For the code's contracts, and no part of the meaning: the table of turns, what looking back finds for its keys, and
-- walks by so many turns.
use Rattle.std.specs.Prelude.{◌≡◌, ◌⊎◌, ◌≤◌, ℕ, zero, suc, ◌+◌, ◌*◌, ◌==◌, ◌&&◌, ◌||◌, List, ◌∷◌, [], Bool, true, false, Option, Some, None, if◌then◌else◌, option_map, option_and_then, find, is_some, unwrap_or, length}
use Rattle.std.specs.declared.cmp.Ordering.{Ordering}
use Rattle.std.specs.BTreeMap.{get}
use Rattle.std.specs.Option.{option_or}
use Rattle.std.specs.Str.{bytes_eq as same_path}
use Rattle.rising_table.specs.Entries.{entry_at}
use Rattle.number_tables.specs.declared.question.QuestionState.{QuestionState}
use Rattle.number_tables.specs.declared.exports_imports.ExportsImports.{ExportsImports}
use Rattle.vat_view.specs.declared.tables.references.BoundReferences.{BoundReferences}
use Rattle.vat_view.specs.declared.tables.references.Binding.{Binding}
use Rattle.vat_view.specs.declared.tables.references.Shortcut.{Shortcut}
use Rattle.decoded_records.specs.declared.origin.Origin.{Origin}
use Rattle.vat_view.specs.declared.record.unsettled.Unsettled.{Unsettled}
use Rattle.vat_view.specs.declared.record.unsettled.Unsettled.TheVariants.{Promise as PromiseToKeep, Results as ResultsOf, Import as ImportToResolve}
use Rattle.vat_view.specs.declared.tables.turns.settlements.Settlements.{Settlements}
use Rattle.vat_view.specs.declared.tables.turns.settlements.Settling.{Settling}
use Rattle.vat_view.specs.declared.tables.turns.turned.Turned.{Turned}
use Rattle.vat_view.specs.declared.tables.turns.turned.Turned.TheVariants.{Nowhere, Reference as ToOne, Field as OneField, Fields as ManyFields}
use Rattle.vat_view.specs.declared.tables.turns.turned.Ended.{Ended}
use Rattle.vat_view.specs.declared.tables.turns.turned.Ended.TheVariants.{Open as Unended, Nowhere as EndedNowhere, Reference as EndedAt}
use Rattle.vat_view.specs.declared.tables.turns.handovers.Handovers.{Handovers}
use Rattle.vat_view.specs.declared.tables.turns.handovers.Handover.{Handover}
use Rattle.vat_view.specs.declared.tables.turns.handovers.HandedCall.{HandedCall}
use Rattle.vat_view.specs.declared.walks.landing.Landing.{Landing}
use Rattle.vat_view.specs.declared.walks.landing.Landing.TheVariants.{Reference as ToReference, Call as ToCall}
use Rattle.vat_view.specs.contracts.record.unsettled.UnsettledOrd.TheImpl as pending_order
use Rattle.vat_view.specs.Types.{Outcome, Results, Elsewhere, Return, Resolve, DecodedRecord, Fulfil, Break, Answer, AnswerBy, Fault, Wire, View, Object, Promise, FieldOf, Import, TableKey}
use Rattle.decoded_records.specs.Past.{Past, Point, id, record_index, last_answer, last_where, Each}
use Rattle.decoded_records.specs.Questions.{call_at, opening}
use Rattle.decoded_records.specs.Lives.{Birth, birth}
use Rattle.decoded_records.specs.Views.{placed_references, view_of_reference}
use Rattle.decoded_records.specs.Calls.{answerer, call_taken_from}
use Rattle.vat_view.specs.Walks.{Next, turns, stays, on_to, next, turned_to}
use Rattle.vat_view.specs.Connections.{last_turn}
use Rattle.decoded_records.specs.Bindings.{is_bound}
use Rattle.vat_view.specs.Glue.FieldTargets.{target_among}
use Rattle.vat_view.specs.Glue.Tables.{bound_at}
use Rattle.number_tables.specs.Glue.LifeTables.{held_origin}
use Rattle.decoded_records.specs.Glue.Parts.{field_path}

-- ---- what records settle

-- two are one
abbrev pub same_pending : Unsettled → Unsettled → Bool
same_pending (PromiseToKeep p) (PromiseToKeep q) = q == p
same_pending (ResultsOf c) (ResultsOf d) = d == c
same_pending (ImportToResolve i place) (ImportToResolve j other) = (j == i) && (other == place)
same_pending _ _ = false

-- something is settled, and it is this
abbrev pub is_this : Unsettled → Option Unsettled → Bool
is_this p (Some q) = same_pending p q
is_this p None = false

-- what a view waits for; an object for nothing
abbrev pub awaited_by : View → Option Unsettled
awaited_by (Object object) = None
awaited_by (Promise p) = Some (PromiseToKeep p)
awaited_by (FieldOf call path) = Some (ResultsOf call)
awaited_by (Import i place) = Some (ImportToResolve i place)

-- the own promise for which a reference stands
abbrev pub promise_of : Option View → Option Unsettled
promise_of (Some (Promise p)) = Some (PromiseToKeep p)
promise_of _ = None

-- the import whose life began so
abbrev pub import_at : Birth → Unsettled
import_at b = ImportToResolve (record_index b.from) b.place

-- a Return settles its call, unless its results went elsewhere
abbrev pub unless_elsewhere : Outcome → Option Unsettled → Option Unsettled
unless_elsewhere Elsewhere s = None
unless_elsewhere _ s = s

-- what a record settles: the promise that it keeps or breaks, the call that it ends, the import that it resolves
abbrev pub settlement_of : Past → DecodedRecord → Option Unsettled
settlement_of before (Fulfil r to) = promise_of (view_of_reference before r)
settlement_of before (Break r) = promise_of (view_of_reference before r)
settlement_of before (Answer c results) = Some (ResultsOf c)
settlement_of before (AnswerBy c by) = Some (ResultsOf c)
settlement_of before (Fault c) = Some (ResultsOf c)
settlement_of before (Wire false k c rs (Return head outcome)) = unless_elsewhere outcome (option_map ResultsOf (call_at (opening (id k true head.answer) before)))
settlement_of before (Wire false k c rs (Resolve n resolution)) = option_map import_at (birth (id k false n) before)
settlement_of before _ = None

-- the call of a question, by what is known of it
abbrev pub results_by : Option QuestionState → Option Unsettled
results_by known = option_map (λ question. ResultsOf question.call) known

-- an import, by where its life began
abbrev pub import_by : Option Origin → Option Unsettled
import_by origin = option_map (λ o. ImportToResolve o.number o.place) origin

-- the same by the tables before the record
abbrev pub settled_by : (ℕ → Option View) → ExportsImports → (TableKey → Option QuestionState) → DecodedRecord → Option Unsettled
settled_by named lives known (Fulfil r to) = promise_of (named r)
settled_by named lives known (Break r) = promise_of (named r)
settled_by named lives known (Answer c results) = Some (ResultsOf c)
settled_by named lives known (AnswerBy c by) = Some (ResultsOf c)
settled_by named lives known (Fault c) = Some (ResultsOf c)
settled_by named lives known (Wire false k c rs (Return head outcome)) = unless_elsewhere outcome (results_by (known (id k true head.answer)))
settled_by named lives known (Wire false k c rs (Resolve n resolution)) = import_by (held_origin lives (id k false n))
settled_by named lives known _ = None

-- whether a record may settle something or resolves a promise, by its kind
abbrev pub may_turn : DecodedRecord → Bool
may_turn (Fulfil r to) = true
may_turn (Break r) = true
may_turn (Answer c results) = true
may_turn (AnswerBy c by) = true
may_turn (Fault c) = true
may_turn (Wire false k c rs (Return head outcome)) = true
may_turn (Wire s k c rs (Resolve n resolution)) = true
may_turn _ = false

-- ---- where they turn it

-- the reference noted for the descriptor at a place of a record
abbrev pub reference_at : DecodedRecord → ℕ → Option ℕ
reference_at e place = option_map (λ n. n.0) (find (λ n. n.1 == place) (placed_references e))

-- the reference that ANSWER gives at a path
abbrev pub answered_at : List ℕ → List (ℕ × List ℕ) → Option ℕ
answered_at path results = option_map (λ answer. answer.0) (find (λ answer. same_path answer.1 path) results)

-- the reference noted for what a Return's results have at a path
abbrev pub returned_at : (ℕ → Option ℕ) → List ℕ → List (List ℕ × ℕ) → Option ℕ
returned_at noted path fields = option_and_then (λ field. noted field.1) (find (λ field. same_path field.0 path) fields)

-- the reference to which a record turns a view of this path that it settles
abbrev pub turn_target : List ℕ → DecodedRecord → Option ℕ
turn_target path (Fulfil r to) = Some to
turn_target path (Answer c results) = answered_at path results
turn_target path (Wire s k c rs (Return head (Results payload))) = returned_at (reference_at (Wire s k c rs (Return head (Results payload)))) path payload.fields
turn_target path (Wire s k c rs (Resolve n resolution)) = reference_at (Wire s k c rs (Resolve n resolution)) 0
turn_target path _ = None

-- the same as it is kept without the record
abbrev pub target_in : List ℕ → Turned → Option ℕ
target_in path Nowhere = None
target_in path (ToOne r) = Some r
target_in path (OneField r at) = if same_path at path then Some r else None
target_in path (ManyFields fields) = target_among path fields

-- the same of one result, as it is kept
abbrev pub answer_target : ℕ × List ℕ → Option ℕ × List ℕ
answer_target answer = (Some answer.0, answer.1)

abbrev pub field_target : (ℕ → Option ℕ) → List ℕ × ℕ → Option ℕ × List ℕ
field_target noted field = (noted field.1, field.0)

-- it is kept where a record turns each view that it settles
abbrev pub IsTurned : DecodedRecord → Turned → Type 0
IsTurned e turned = (path : List ℕ) → target_in path turned ≡ turn_target path e

-- every view is turned nowhere, by its kind
abbrev pub is_nowhere : Turned → Bool
is_nowhere Nowhere = true
is_nowhere _ = false

-- a record that settled something, and the call by whose results it did, if there is one
abbrev pub Settler : Type 0
Settler = DecodedRecord × Option ℕ

-- where a view of this path goes by what settled it, where references are named: to the same field of the call by which
-- it did, or to the view of a reference; it stays where nothing did
abbrev pub goes : (ℕ → Option View) → List ℕ → Option Settler → Next
goes named path (Some (e, Some by)) = turns (FieldOf by path)
goes named path (Some (e, None)) = on_to (option_and_then named (turn_target path e))
goes named path None = stays

-- how a record that settled a view turns it: to the view of a reference, or where there is a call by whose results it
-- did, to the same field of that
abbrev pub Turning : Type 0
Turning = Option ℕ × Option ℕ

-- where a view of this path goes by that
abbrev pub goes_to : (ℕ → Option View) → List ℕ → Option Turning → Next
goes_to named path (Some (r, Some by)) = turns (FieldOf by path)
goes_to named path (Some (r, None)) = on_to (option_and_then named r)
goes_to named path None = stays

-- how a settler turns a view of this path
abbrev pub turning_of : List ℕ → Settler → Turning
turning_of path s = (turn_target path s.0, s.1)

-- the reference or the call to which it turns
abbrev pub landing_of : Turning → Option Landing
landing_of (r, Some by) = Some (ToCall by)
landing_of (r, None) = option_map ToReference r

-- the view to which it turns so
abbrev pub landing_view : (ℕ → Option View) → List ℕ → Landing → Option View
landing_view named path (ToReference r) = named r
landing_view named path (ToCall c) = Some (FieldOf c path)

-- the last record that settled this
abbrev pub settler : Unsettled → Past → Option Point
settler p past = last_where (λ before e. is_this p (settlement_of before e)) past

-- the call by whose results a record settled something: only of a call's results
abbrev pub call_behind : Unsettled → Past → DecodedRecord → Option ℕ
call_behind (ResultsOf c) before e = call_taken_from before e
call_behind _ before e = None

-- a record that settled something, with that call
abbrev pub settler_at_point : Unsettled → Point → Settler
settler_at_point p q = (q.event, call_behind p q.before q.event)

-- the last record that settled a view
abbrev pub settler_of : View → Past → Option Settler
settler_of v past = option_and_then (λ p. option_map (settler_at_point p) (settler p past)) (awaited_by v)

-- the last record that settled a view, and its number with the reference to which it turned that
abbrev pub last_settler : View → Past → Option Point
last_settler v past = option_and_then (λ p. settler p past) (awaited_by v)

abbrev pub settled_as : View → Point → ℕ × Option ℕ
settled_as v q = (record_index q, turn_target (field_path v) q.event)

-- the record of this number answers by this call
abbrev pub handing : ℕ → ℕ → Handover
handing number by = record { number = number; by = by }

-- a record answers this call by another
abbrev pub handover_by : ℕ → Past → DecodedRecord → Option Handover
handover_by c before e = option_map (handing (length before)) (answerer c before e)

-- the last record that did
abbrev pub handover_of : ℕ → Past → Option Handover
handover_of c past = last_answer (handover_by c) past

-- each reference to which a record turns something is bound
abbrev pub LandsBound : Past → DecodedRecord → Type 0
LandsBound before e = (path : List ℕ) (r : ℕ) → turn_target path e ≡ Some r → is_bound (e ∷ before) r ≡ true

-- ---- the table

-- the order of what views wait for
abbrev pub pending_cmp : Unsettled → Unsettled → Ordering
pending_cmp = (pending_order.ghosts).cmp

-- how something ended: the number of the record, and the reference to which it turned, if it did
abbrev pub ended : Ended → Option (ℕ × Option ℕ)
ended Unended = None
ended (EndedNowhere number) = Some (number, None)
ended (EndedAt number r) = Some (number, Some r)

-- what the rows of the table have under a key: how a promise ended, the number of the record that settled a call, and
-- where a call's results are turned
abbrev pub ended_in : List (ℕ × Ended) → ℕ → Option (ℕ × Option ℕ)
ended_in entries k = option_and_then ended (entry_at entries k)

abbrev pub number_in : List (ℕ × Option ℕ) → ℕ → Option ℕ
number_in entries k = option_and_then (λ number. number) (entry_at entries k)

abbrev pub turned_in : List (ℕ × Turned) → ℕ → Turned
turned_in entries k = unwrap_or (entry_at entries k) Nowhere

-- a number with a target beside it
abbrev pub settled_with : Option ℕ → Option ℕ → Option (ℕ × Option ℕ)
settled_with target (Some number) = Some (number, target)
settled_with target None = None

-- the number of the record that settled a view, by the table, and the reference to which it turned that
abbrev pub settled_at : Settlements → View → Option (ℕ × Option ℕ)
settled_at table (Object object) = None
settled_at table (Promise p) = ended_in table.promises p
settled_at table (FieldOf c path) = settled_with (target_in path (turned_in table.turned c)) (number_in table.results c)
settled_at table (Import i place) = option_and_then ended (get pending_cmp table.imports (ImportToResolve i place))

-- a view that waits for this
abbrev pub waiting : Unsettled → View
waiting (PromiseToKeep p) = Promise p
waiting (ResultsOf c) = FieldOf c []
waiting (ImportToResolve i place) = Import i place

-- something is settled, and a view waits for it
abbrev pub settles : View → Option Unsettled → Bool
settles (Object object) s = false
settles (Promise p) s = is_this (PromiseToKeep p) s
settles (FieldOf c path) s = is_this (ResultsOf c) s
settles (Import i place) s = is_this (ImportToResolve i place) s

-- a row has room for where a call's results are turned: it takes none where that is nowhere
abbrev pub has_room_for_turned : List (ℕ × Turned) → ℕ → Turned → Bool
has_room_for_turned entries c turned = is_nowhere turned || is_some (entry_at entries c)

-- the table has room for what is settled, and for where its views are turned
abbrev pub has_room_for : Settlements → Turned → Option Unsettled → Bool
has_room_for table turned (Some (PromiseToKeep p)) = is_some (entry_at table.promises p)
has_room_for table turned (Some (ResultsOf c)) = is_some (entry_at table.results c) && has_room_for_turned table.turned c turned
has_room_for table turned (Some (ImportToResolve i place)) = is_some (get pending_cmp table.imports (ImportToResolve i place))
has_room_for table turned None = true

abbrev pub has_room_to_settle : Settlements → Settling → Bool
has_room_to_settle table s = has_room_for table s.turned s.settled

-- what the table of calls that were answered by others has of a call
abbrev pub handed_call_in : Handovers → ℕ → Option HandedCall
handed_call_in table c = option_and_then (λ handed. handed) (entry_at table.entries c)

-- the last record that answered it by another
abbrev pub handover_in : Handovers → ℕ → Option Handover
handover_in table c = option_map (λ handed. handed.handover) (handed_call_in table c)

-- from a reference or call to itself
abbrev pub own_leap : ℕ → Shortcut
own_leap r = record { to = r; turns = 0 }

-- two, with a turn between them
abbrev pub joined : Shortcut → Shortcut → Shortcut
joined near far = record { to = far.to; turns = near.turns + far.turns + 1 }

-- what is ahead of a call, by what is kept of it: itself, where the calls ahead are dropped
abbrev pub call_ahead_of : Bool → ℕ → HandedCall → Shortcut
call_ahead_of true c handed = own_leap c
call_ahead_of false c handed = handed.ahead

-- what is ahead of a call that was answered by another, and by how many turns
abbrev pub call_ahead_in : Handovers → ℕ → Option Shortcut
call_ahead_in table c = option_map (λ handed. call_ahead_of table.dropped c handed) (handed_call_in table c)

-- what is ahead of a call was so before, or is itself
abbrev pub IsOwnOrOldCall : Handovers → Handovers → Type 0
IsOwnOrOldCall before after = (c : ℕ) (q : Shortcut) → call_ahead_in after c ≡ Some q → (call_ahead_in before c ≡ Some q) ⊎ (q ≡ own_leap c)

-- that table has room for this call, if there is one
abbrev pub has_room_for_handover : Handovers → Option ℕ → Bool
has_room_for_handover table (Some c) = is_some (entry_at table.entries c)
has_room_for_handover table None = true

-- how many calls have an entry in it
abbrev pub handovers_len : Handovers → ℕ
handovers_len table = length table.entries

-- the same by the table of turns
abbrev pub handover_at : Settlements → ℕ → Option Handover
handover_at table c = handover_in table.handovers c

-- the call that is answered by another, where a record settles so
abbrev pub handed_call : Option Unsettled → Option ℕ → Option ℕ
handed_call (Some (ResultsOf c)) (Some by) = Some c
handed_call _ _ = None

-- what the table has of a call after the record of this number settled so
abbrev pub handover_after : Option Unsettled → Option ℕ → ℕ → ℕ → Option Handover → Option Handover
handover_after settled by number c old =
    if is_this (ResultsOf c) settled then option_or (option_map (handing number) by) old else old

-- a table says the same as before
pub record SaysSameTurns (old new : Settlements) : Type 0 where
  pub settlers : (v : View) → settled_at new v ≡ settled_at old v
  pub handed : (c : ℕ) → handover_at new c ≡ handover_at old c

-- a table says what it said before, and that the record of this number settled so
pub record IsNoted (settling : Settling) (number : ℕ) (old new : Settlements) : Type 0 where
  pub settlers : (v : View) → settled_at new v
      ≡ (if settles v settling.settled then Some (number, target_in (field_path v) settling.turned) else settled_at old v)
  pub handed : (c : ℕ) → handover_at new c ≡ handover_after settling.settled settling.by number c (handover_at old c)
  pub ahead : IsOwnOrOldCall old.handovers new.handovers

-- the call by whose results the record of this number settled, where the last record that did so has this number
abbrev pub by_handover : ℕ → Option Handover → Option ℕ
by_handover number (Some handover) = if handover.number == number then Some handover.by else None
by_handover number None = None

-- the table of turns at a point of a log: for each view it has the number of the last record that settled it and where
-- that turned it, and for each call the last that answered it by another; each view goes where the record that settled it
-- says, which is the last that turned it, and what it goes to is bound
pub record AreSettled (past : Past) (table : Settlements) : Type 0 where
  pub settlers : (v : View) → settled_at table v ≡ option_map (settled_as v) (last_settler v past)
  pub handed : (c : ℕ) → handover_at table c ≡ handover_of c past
  pub going : (v : View) → next past v ≡ goes (view_of_reference past) (field_path v) (settler_of v past)
  pub turning : (v : View) → last_turn v past ≡ last_settler v past
  pub landed : Each LandsBound past

-- the call by whose results the record of this number settled a view, by the table: only of a field
abbrev pub call_behind_by : Settlements → View → ℕ → Option ℕ
call_behind_by table (FieldOf c path) number = by_handover number (handover_at table c)
call_behind_by table _ number = None

-- how the record that settled a view turns it, by the table
abbrev pub turning_by : Settlements → View → Option Turning
turning_by table v = option_map (λ s. (s.1, call_behind_by table v s.0)) (settled_at table v)

-- where a view goes next, by the table
abbrev pub goes_by : Settlements → (ℕ → Option View) → View → Next
goes_by table named v = goes_to named (field_path v) (turning_by table v)

-- the reference or call to which the record that settled a view turns it, by the table
abbrev pub landed_by : Settlements → View → Option Landing
landed_by table v = option_and_then landing_of (turning_by table v)

-- the reference, where it is one
abbrev pub landed_reference : Landing → Option ℕ
landed_reference (ToReference r) = Some r
landed_reference (ToCall c) = None

-- the reference to which it turns, where it turns to one
abbrev pub reference_by : Settlements → View → Option ℕ
reference_by table v = option_and_then landed_reference (landed_by table v)

-- how many references are bound
abbrev pub bound_len : BoundReferences → ℕ
bound_len table = length table.entries

-- how many turns a walk makes at most that doesn't go in a circle: it goes to references, to each once, and from the
-- first view and from each of these by calls, to each once
abbrev pub most_turns : Settlements → BoundReferences → ℕ
most_turns table bound = handovers_len table.handovers * (bound_len bound + 1) + bound_len bound

-- what is ahead of a reference, by what is kept of it: itself, where the references ahead are dropped
abbrev pub ahead_in : Bool → ℕ → Binding → Shortcut
ahead_in true r binding = own_leap r
ahead_in false r binding = binding.ahead

-- what is ahead of a bound reference, and by how many turns
abbrev pub ahead_at : BoundReferences → ℕ → Option Shortcut
ahead_at table r = option_map (λ binding. ahead_in table.dropped r binding) (entry_at table.entries r)

-- what is ahead of a reference was so before, or is itself
abbrev pub IsOwnOrOld : BoundReferences → BoundReferences → Type 0
IsOwnOrOld before after = (r : ℕ) (q : Shortcut) → ahead_at after r ≡ Some q → (ahead_at before r ≡ Some q) ⊎ (q ≡ own_leap r)

-- the view of the reference ahead of this one, and by how many turns
abbrev pub view_ahead_at : BoundReferences → ℕ → Option (View × ℕ)
view_ahead_at table r = option_and_then (λ leap. option_map (λ v. (v, leap.turns)) (bound_at table leap.to)) (ahead_at table r)

-- where the reference ahead of this one lands
abbrev pub onward_by : Settlements → BoundReferences → ℕ → Option ℕ
onward_by table bound r = option_and_then (reference_by table) (option_and_then (λ leap. bound_at bound leap.to) (ahead_at bound r))

-- ---- walks

-- the view to which a view turns, by the table
abbrev pub turn_by : Settlements → (ℕ → Option View) → View → Option View
turn_by table named v = turned_to (goes_by table named v)

-- what is reached by n turns, if there is something
abbrev pub after_turns : {A : Type 0} → (A → Option A) → ℕ → Option A → Option A
after_turns turn zero v = v
after_turns turn (suc n) v = after_turns turn n (option_and_then turn v)

-- one is reached from another by some number of turns
abbrev pub Reaches : {A : Type 0} → (A → Option A) → A → A → Type 0
Reaches turn a b = (n : ℕ) × (after_turns turn n (Some a) ≡ Some b)

-- it is so by 1 or more turns
abbrev pub ReachesByTurns : {A : Type 0} → (A → Option A) → A → A → Type 0
ReachesByTurns turn a c = (n : ℕ) × (after_turns turn n (turn a) ≡ Some c)

-- it is so by one turn and then so many
abbrev pub TurnsAndThen : {A : Type 0} → (A → Option A) → A → ℕ → A → Type 0
TurnsAndThen turn a n c = after_turns turn n (turn a) ≡ Some c

-- so many turns are made, to this view; and where they are at most so many, none after them
abbrev pub TurnsOn : {A : Type 0} → (A → Option A) → A → ℕ → A → ℕ → Type 0
TurnsOn turn a most last n = (after_turns turn n (Some a) ≡ Some last) × (n ≤ most → turn last ≡ None)

-- two reach a common one
abbrev pub ReachOne : {A : Type 0} → (A → Option A) → A → A → Type 0
ReachOne {A} turn a b = (c : A) × Reaches turn a c × Reaches turn b c

-- one is reached from another at last: from each that is reached so
abbrev pub IsLast : {A : Type 0} → (A → Option A) → A → A → Type 0
IsLast {A} turn a last = Reaches turn a last × ((c : A) → Reaches turn a c → Reaches turn c last)

-- the last that is reached, where it stays
abbrev pub EndsBy : (View → Next) → View → View → Type 0
EndsBy goes a end = Reaches (λ v. turned_to (goes v)) a end × (goes end ≡ stays)

-- a reference is ahead of another: the other's view leads, by exactly so many of these turns, to its view
abbrev pub IsAhead : (View → Option View) → BoundReferences → ℕ → Shortcut → Type 0
IsAhead turn table r q = (a : View) × (b : View) × (bound_at table r ≡ Some a) × (bound_at table q.to ≡ Some b) × (after_turns turn q.turns (Some a) ≡ Some b)

-- what is ahead of a reference and what is ahead of the next, joined
abbrev pub IsJoined : BoundReferences → ℕ → ℕ → Shortcut → Type 0
IsJoined table r next leap = (near : Shortcut) × (far : Shortcut) × (ahead_at table r ≡ Some near) × (ahead_at table next ≡ Some far) × (leap ≡ joined near far)

-- what the table has beside each bound reference is ahead of it
abbrev pub AreAhead : (View → Option View) → BoundReferences → Type 0
AreAhead turn table = (r : ℕ) (q : Shortcut) → ahead_at table r ≡ Some q → IsAhead turn table r q

-- the turns by the tables
abbrev pub turns_of : Settlements → BoundReferences → View → Option View
turns_of table bound v = turn_by table (bound_at bound) v

-- a call is ahead of another: each of the other's fields leads, by exactly so many of these turns, to its own
abbrev pub IsCallAhead : (View → Option View) → ℕ → Shortcut → Type 0
IsCallAhead turn c q = (path : List ℕ) → after_turns turn q.turns (Some (FieldOf c path)) ≡ Some (FieldOf q.to path)

-- what the table has beside each call is ahead of it
abbrev pub AreCallsAhead : (View → Option View) → Handovers → Type 0
AreCallsAhead turn table = (c : ℕ) (q : Shortcut) → call_ahead_in table c ≡ Some q → IsCallAhead turn c q

-- the call where the fields of the call ahead of this one land
abbrev pub landed_call : Landing → Option ℕ
landed_call (ToReference r) = None
landed_call (ToCall c) = Some c

abbrev pub call_onward_by : Settlements → ℕ → Option ℕ
call_onward_by table c = option_and_then landed_call (landed_by table (FieldOf (unwrap_or (call_ahead_in table.handovers c) (own_leap c)).to []))

-- the references and calls ahead are ahead by the turns of these tables
abbrev pub HaveAhead : Settlements → BoundReferences → Type 0
HaveAhead table bound = AreAhead (turns_of table bound) bound × AreCallsAhead (turns_of table bound) table.handovers
