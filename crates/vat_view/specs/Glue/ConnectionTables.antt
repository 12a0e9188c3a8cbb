-- For the code's contracts, and no part of the meaning: the table of connections, and walks to views of a kind.
use Rattle.std.specs.Prelude.{◌≡◌, ℕ, ◌==◌, Bool, true, false, not, ◌&&◌, ◌||◌, Option, Some, None, if◌then◌else◌, option_map, option_and_then, unwrap_or, is_some, IsTrue}
use Rattle.std.specs.Ordering.{nat_cmp}
use Rattle.std.specs.BTreeMap.{BTreeMap, get}
use Rattle.std.specs.Option.{option_map_or}
use Rattle.rising_table.specs.Entries.{entry_at}
use Rattle.vat_view.specs.declared.tables.arrivals.Arrivals.{Arrivals}
use Rattle.vat_view.specs.declared.tables.connections.Connections.{Connections}
use Rattle.vat_view.specs.declared.walks.reachable.Sought.{Sought}
use Rattle.vat_view.specs.declared.walks.reachable.Sought.TheVariants.{Over, Elsewhere, Back}
use Rattle.vat_view.specs.declared.tables.turns.settlements.Settlements.{Settlements}
use Rattle.decoded_records.specs.Glue.Parts.{field_path}
use Rattle.vat_view.specs.Types.{Edition, First, Later, Bootstrap, Call, DecodedRecord, Wire, View, FieldOf, Import}
use Rattle.decoded_records.specs.Past.{Past, is}
use Rattle.vat_view.specs.Connections.{is_aborted, is_aborted_here, asked_on, is_own, is_another}
use Rattle.vat_view.specs.Glue.ArrivalTables.{arrival_at, back_at}
use Rattle.vat_view.specs.Glue.TurnTables.{settled_at, turn_by, after_turns}

-- the call for which a record asks a question of this vat's, with the connection
abbrev pub call_sent_on : DecodedRecord → Option (ℕ × ℕ)
call_sent_on (Wire true k c rs (Bootstrap q)) = Some (c, k)
call_sent_on (Wire true k c rs (Call head target params)) = Some (c, k)
call_sent_on _ = None

-- the connection, where it is this call
abbrev pub on_for : ℕ → Option (ℕ × ℕ) → Option ℕ
on_for call (Some a) = if a.0 == call then Some a.1 else None
on_for call None = None

-- the connection that the table has for a call
abbrev pub asked_at : Connections → ℕ → Option ℕ
asked_at table c = option_and_then (λ connection. connection) (entry_at table.asked c)

-- a connection is marked, and there is room to mark one
abbrev pub marked_at : BTreeMap ℕ Bool → ℕ → Bool
marked_at marks k = unwrap_or (get nat_cmp marks k) false

abbrev pub has_room : BTreeMap ℕ Bool → Option ℕ → Bool
has_room marks (Some k) = is_some (get nat_cmp marks k)
has_room marks None = true

-- the table has a connection as aborted, and as aborted by this vat
abbrev pub aborted_at : Connections → ℕ → Bool
aborted_at table k = marked_at table.aborted k

abbrev pub aborted_here_at : Connections → ℕ → Bool
aborted_here_at table k = marked_at table.aborted_here k

-- the table has room for a call that is asked
abbrev pub has_asked : Connections → Option (ℕ × ℕ) → Bool
has_asked table (Some a) = is_some (entry_at table.asked a.0)
has_asked table None = true

-- the table of connections has what looking back finds
pub record AreConnected (past : Past) (table : Connections) : Type 0 where
  pub asked : (c : ℕ) → asked_at table c ≡ asked_on c past
  pub aborted : (k : ℕ) → aborted_at table k ≡ is_aborted k past
  pub aborted_here : (k : ℕ) → aborted_here_at table k ≡ is_aborted_here k past

-- ---- walks to views of a kind

-- the connection over which a view is reached, by the tables
abbrev pub over_by : Arrivals → Connections → View → Option ℕ
over_by arrivals table (Import number place) = option_map (λ a. a.connection) (arrival_at arrivals number place)
over_by arrivals table (FieldOf call path) = asked_at table call
over_by arrivals table _ = None

-- a view is elsewhere than over this connection, where it is reached over that one or none
abbrev pub is_elsewhere_by : Edition → ℕ → View → Option ℕ → Bool
is_elsewhere_by First k v over = is_own v || is_another k over
is_elsewhere_by Later k v over = not (is k over)

-- a view turned, and what turned it brought it back, by the tables
abbrev pub brought_back_by : Settlements → (ℕ → Option View) → Arrivals → View → Bool
brought_back_by turns named arrivals v =
    is_some (turn_by turns named v) && option_map_or (λ s. back_at arrivals s.0 (field_path v)) (settled_at turns v) false

-- a view is sought, where it is reached over this connection, and where it was brought back or not
abbrev pub is_sought : Sought → View → Option ℕ → Bool → Bool
is_sought (Over k) v over back = is k over
is_sought (Elsewhere k edition) v over back = is_elsewhere_by edition k v over
is_sought (Back k) v over back = is k over && back

-- the same by the tables
abbrev pub sought_by : Settlements → (ℕ → Option View) → Arrivals → Connections → Sought → View → Bool
sought_by turns named arrivals table sought v = is_sought sought v (over_by arrivals table v) (brought_back_by turns named arrivals v)

-- one that passes a test is reached by some number of turns
abbrev pub ReachesOne : {A : Type 0} → (A → Option A) → (A → Bool) → A → Type 0
ReachesOne {A} turn test a = (n : ℕ) × (b : A) × (after_turns turn n (Some a) ≡ Some b) × IsTrue (test b)
