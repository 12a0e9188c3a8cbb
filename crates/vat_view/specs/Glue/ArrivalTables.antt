-- For the code's contracts, and no part of the meaning: the table of what came in, imports and what is this vat's own.
use Rattle.std.specs.Prelude.{◌≡◌, ℕ, List, [], ◌∷◌, Bool, true, false, ◌||◌, Option, Some, None, if◌then◌else◌, option_map, option_and_then, find, is_some, slice_get}
use Rattle.std.specs.List.{list_any}
use Rattle.std.specs.Option.{option_map_or}
use Rattle.std.specs.Str.{bytes_eq as same_path}
use Rattle.rising_table.specs.Entries.{entry_at}
use Rattle.vat_view.specs.declared.tables.arrivals.Arrivals.{Arrivals}
use Rattle.vat_view.specs.declared.tables.arrivals.Brought.{Brought}
use Rattle.vat_view.specs.declared.tables.arrivals.Brought.TheVariants as kept
use Rattle.vat_view.specs.declared.tables.arrivals.Back.{Back}
use Rattle.vat_view.specs.declared.tables.arrivals.Back.TheVariants as back
use Rattle.vat_view.specs.Types.{Descriptor, SenderHosted, SenderPromise, Results, TakeFrom, Cap, Return, Resolve, DecodedRecord, Wire}
use Rattle.decoded_records.specs.Past.{Past, record_at}
use Rattle.decoded_records.specs.Lives.{descriptors}
use Rattle.vat_view.specs.Arrivals.{Arrival, arrived}
use Rattle.vat_view.specs.Connections.{names_back, brings_back}

-- whether a descriptor is senderHosted, where it is that or senderPromise
abbrev pub hosted_in : Descriptor → Option Bool
hosted_in (SenderHosted n) = Some true
hosted_in (SenderPromise n) = Some false
hosted_in _ = None

-- some of these descriptors name what is their receiver's
abbrev pub has_back : List Descriptor → Bool
has_back described = list_any (λ d. names_back (Some d)) described

-- whether a record may bring something back: whether a Return or Resolve that came in has a descriptor of its receiver's,
-- or takes the results of another question
abbrev pub may_bring_back : DecodedRecord → Bool
may_bring_back (Wire false k c rs (Return head (Results payload))) = has_back payload.descriptors
may_bring_back (Wire false k c rs (Return head (TakeFrom n))) = true
may_bring_back (Wire false k c rs (Resolve n (Cap d))) = names_back (Some d)
may_bring_back _ = false

-- the connection over which a record brings imports or something back, if it does
abbrev pub arriving_over : DecodedRecord → Option ℕ
arriving_over (Wire false k c rs m) =
    if list_any (λ d. is_some (hosted_in d)) (descriptors (Wire false k c rs m)) || may_bring_back (Wire false k c rs m) then Some k else None
arriving_over _ = None

-- what is kept of a result: whether what stands at its path is the receiver's
abbrev pub field_back : List Descriptor → List ℕ × ℕ → Bool × List ℕ
field_back described field = (names_back (slice_get described field.1), field.0)

-- the same at a path, of the first result that stands there
abbrev pub back_among : List ℕ → List (Bool × List ℕ) → Bool
back_among path fields = option_map_or (λ field. field.0) (find (λ field. same_path field.1 path) fields) false

-- what a record brings back at a path, as it is kept
abbrev pub back_in : Back → List ℕ → Bool
back_in back.Whole path = true
back_in (back.Fields fields) path = back_among path fields.items

-- what came in over a connection
abbrev pub arrival_over : ℕ → Bool → Arrival
arrival_over k hosted = record { connection = k; hosted = hosted }

-- what came in over a connection at a place, by the descriptors there
abbrev pub brought_over : ℕ → List (Option Bool) → ℕ → Option Arrival
brought_over k hosted place = option_map (arrival_over k) (option_and_then (λ h. h) (slice_get hosted place))

-- the connection of what is kept of a record, and which of its descriptors are senderHosted
abbrev pub connection_in : Brought → ℕ
connection_in (kept.One k hosted) = k
connection_in (kept.Several k hosted) = k
connection_in (kept.Mixed came) = came.value.connection

abbrev pub hosted_by : Brought → List (Option Bool)
hosted_by (kept.One k hosted) = hosted ∷ []
hosted_by (kept.Several k hosted) = hosted.value.items
hosted_by (kept.Mixed came) = came.value.hosted.items

-- what is kept of a record says that it brings something back at a path
abbrev pub back_by : Brought → List ℕ → Bool
back_by (kept.One k hosted) path = false
back_by (kept.Several k hosted) path = false
back_by (kept.Mixed came) path = back_in came.value.back path

-- what the table has of a place of a record
abbrev pub arrival_in : Brought → ℕ → Option Arrival
arrival_in brought place = brought_over (connection_in brought) (hosted_by brought) place

abbrev pub arrival_at : Arrivals → ℕ → ℕ → Option Arrival
arrival_at table number place = option_and_then (λ brought. arrival_in brought place) (entry_at table.entries number)

-- what the table has of a path and a record
abbrev pub back_at : Arrivals → ℕ → List ℕ → Bool
back_at table number path = option_map_or (λ brought. back_by brought path) (entry_at table.entries number) false

-- the record of this number brings something back at a path
abbrev pub back_of : Past → ℕ → List ℕ → Bool
back_of past number path = option_map_or (brings_back path) (record_at number past) false

-- the table of arrivals has what looking back finds
pub record AreArrived (past : Past) (table : Arrivals) : Type 0 where
  pub imports : (number place : ℕ) → arrival_at table number place ≡ arrived past number place
  pub back : (number : ℕ) (path : List ℕ) → back_at table number path ≡ back_of past number path
