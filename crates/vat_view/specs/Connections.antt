-- The connections over which views are reached and came back, and those that were aborted (rpc.capnp, the comments of
-- Disembargo and of Message.abort).
use Rattle.std.specs.Prelude.{◌≡◌, ℕ, ◌==◌, List, [], Bool, true, false, not, ◌&&◌, ◌||◌, Option, Some, None, if◌then◌else◌, option_map, option_and_then, find, is_some, slice_get, IsTrue}
use Rattle.std.specs.Option.{option_map_or}
use Rattle.std.specs.Str.{bytes_eq as same_path}
use Rattle.vat_view.specs.Types.{Descriptor, ReceiverHosted, ReceiverAnswer, Edition, First, Later, Results, TakeFrom, Cap, Bootstrap, Call, Return, Resolve, Abort, DecodedRecord, Wire, View, Object, Promise, FieldOf, Import}
use Rattle.decoded_records.specs.Past.{Past, Point, is, last_answer, last_where}
use Rattle.vat_view.specs.Arrivals.{arrived}
use Rattle.decoded_records.specs.Calls.{has_passed}
use Rattle.vat_view.specs.Walks.{turn, next, turned_to, Leads}

-- (rpc.capnp, Message.abort: sent when a connection is being aborted; the sender will completely close it shortly
-- thereafter)
-- the connection that a record aborts, sent or received
abbrev pub aborted_by : DecodedRecord → Option ℕ
aborted_by (Wire sent k call references Abort) = Some k
aborted_by _ = None

-- a record aborts this connection
abbrev pub aborts : ℕ → DecodedRecord → Bool
aborts connection e = is connection (aborted_by e)

-- a connection was aborted, from either end
abbrev pub is_aborted : ℕ → Past → Bool
is_aborted connection past = has_passed (λ before e. aborts connection e) past

-- the connection on which a record sends an abort
abbrev pub abort_sent_on : DecodedRecord → Option ℕ
abort_sent_on (Wire true k call references Abort) = Some k
abort_sent_on _ = None

-- this vat has sent an abort on a connection
abbrev pub is_aborted_here : ℕ → Past → Bool
is_aborted_here connection past = has_passed (λ before e. is connection (abort_sent_on e)) past

-- (rpc.capnp, Disembargo: the message bounces along the path that calls to the promise took, and comes back to the vat
-- that sent it)
-- the connection on which a record asks a question of this vat's for this call: a sent Bootstrap or Call
abbrev pub asks : ℕ → DecodedRecord → Option ℕ
asks call (Wire true k c rs (Bootstrap q)) = if c == call then Some k else None
asks call (Wire true k c rs (Call head target params)) = if c == call then Some k else None
asks call _ = None

-- the connection on which this vat asked its question for a call
abbrev pub asked_on : ℕ → Past → Option ℕ
asked_on call past = last_answer (λ before e. asks call e) past

-- the connection over which a view is reached: an import over the one over which it came in, a field over the one on
-- which its call was asked; an own object or promise over none
abbrev pub reached_over : Past → View → Option ℕ
reached_over past (Import number place) = option_map (λ a. a.connection) (arrived past number place)
reached_over past (FieldOf call path) = asked_on call past
reached_over past _ = None

-- a view is an own object or promise
abbrev pub is_own : View → Bool
is_own (Object object) = true
is_own (Promise p) = true
is_own _ = false

-- there is a connection, and it is another than k
abbrev pub is_another : ℕ → Option ℕ → Bool
is_another k (Some connection) = not (connection == k)
is_another k None = false

-- a view leads, by 0 or more turns, to one that is reached over this connection
abbrev pub LeadsOver : Past → View → ℕ → Type 0
LeadsOver past from k = (v : View) × Leads past from v × (reached_over past v ≡ Some k)

-- a view is elsewhere than over this connection: an own object or promise, or reached over another. In a log of the later
-- edition it only isn't reached over this one, so that the field of a call that was never asked is elsewhere too
abbrev pub is_elsewhere : Edition → ℕ → Past → View → Bool
is_elsewhere First k past v = is_own v || is_another k (reached_over past v)
is_elsewhere Later k past v = not (is k (reached_over past v))

-- a view leads, by 0 or more turns, to one that is elsewhere
abbrev pub LeadsElsewhere : Edition → Past → View → ℕ → Type 0
LeadsElsewhere edition past from k = (v : View) × Leads past from v × IsTrue (is_elsewhere edition k past v)

-- (rpc.capnp, CapDescriptor.receiverHosted and receiverAnswer)
-- a descriptor names what is its receiver's: what that hosts, or a result of a call that it answers
abbrev pub names_back : Option Descriptor → Bool
names_back (Some (ReceiverHosted n)) = true
names_back (Some (ReceiverAnswer n path)) = true
names_back _ = false

-- what a received record has at a path is its receiver's: a result in a Return, any result where a Return takes those of
-- another question, and whatever a Resolve resolves to
abbrev pub brings_back : List ℕ → DecodedRecord → Bool
brings_back path (Wire false k c rs (Return head (Results payload))) =
    names_back (option_and_then (λ field. slice_get payload.descriptors field.1) (find (λ field. same_path field.0 path) payload.fields))
brings_back path (Wire false k c rs (Return head (TakeFrom n))) = true
brings_back path (Wire false k c rs (Resolve n (Cap d))) = names_back (Some d)
brings_back path _ = false

-- the path of a view: a field's own, and of any other view the empty one
abbrev pub path_of : View → List ℕ
path_of (FieldOf call path) = path
path_of _ = []

-- the last record that turned a view, or stopped it
abbrev pub last_turn : View → Past → Option Point
last_turn v past = last_where (λ before e. is_some (turn v before e)) past

-- a view is reached over this connection, and came back over it: the message that turned it turned it to what is this
-- vat's own
abbrev pub is_back : ℕ → Past → View → Bool
is_back k past v = is k (reached_over past v) && (is_some (turned_to (next past v)) && option_map_or (λ p. brings_back (path_of v) p.event) (last_turn v past) false)

-- a view leads, by 0 or more turns, to one that came back over this connection
abbrev pub CameBack : Past → View → ℕ → Type 0
CameBack past from k = (v : View) × Leads past from v × IsTrue (is_back k past v)
