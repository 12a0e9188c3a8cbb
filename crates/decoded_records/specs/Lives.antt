-- How often export and import numbers are held, and their lives (rpc.capnp, the comments of ExportId, ImportId,
-- CapDescriptor, Release, Return.releaseParamCaps and Finish.releaseResultCaps).
use Rattle.std.specs.Prelude.{ℕ, ◌-◌, ◌≤◌, nat_lt, List, [], ◌∷◌, Bool, true, false, not, ◌&&◌, ◌||◌, Option, Some, None, if◌then◌else◌, count_by, option_map, is_some, slice_get, IsTrue}
use Rattle.std.specs.Bool.{beq}
use Rattle.std.specs.List.{filter_map, position_from, list_all}
use Rattle.std.specs.Option.{option_map_or}
use Rattle.decoded_records.specs.Types.{Descriptor, SenderHosted, SenderPromise, Results, Cap, RpcMessage, Call, Return, Resolve, Release, DecodedRecord, Wire, TableKey}
use Rattle.decoded_records.specs.Past.{Past, Point, point, id, same_id, names, last_answer, last_since, sum_back}
use Rattle.decoded_records.specs.Questions.{is_late, closes}

-- the descriptors of a message, by place; a Resolve's stands at place 0
abbrev pub descriptors_of : RpcMessage → List Descriptor
descriptors_of (Call head target params) = params.descriptors
descriptors_of (Return head (Results payload)) = payload.descriptors
descriptors_of (Resolve promise (Cap d)) = d ∷ []
descriptors_of _ = []

-- the descriptors of a record
abbrev pub descriptors : DecodedRecord → List Descriptor
descriptors (Wire sent k call references m) = descriptors_of m
descriptors _ = []

-- the number that a descriptor of a record introduces: senderHosted and senderPromise name one of the sender's
-- exports
abbrev pub number_introduced : DecodedRecord → Descriptor → Option TableKey
number_introduced (Wire sent k call references m) (SenderHosted n) = Some (id k sent n)
number_introduced (Wire sent k call references m) (SenderPromise n) = Some (id k sent n)
number_introduced _ _ = None

-- the numbers that a record introduces, in the order of their places; a late Return's aren't counted
abbrev pub introductions : Past → DecodedRecord → List TableKey
introductions before e = if is_late before e then [] else filter_map (number_introduced e) (descriptors e)

-- the numbers that a record introduced, if there is one
abbrev pub introductions_at : Option Point → List TableKey
introductions_at (Some p) = introductions p.before p.event
introductions_at None = []

-- how many descriptors of a record introduce a number
abbrev pub introduces : TableKey → Past → DecodedRecord → ℕ
introduces i before e = count_by (same_id i) (introductions before e)

-- how much of a number a record gives back: a Release its count of one of the receiver's exports; a Return with
-- releaseParamCaps true each that its Call introduced; a Finish with releaseResultCaps true each that its question's
-- Return introduced, if that has passed
abbrev pub gives_back : TableKey → Past → DecodedRecord → ℕ
gives_back i before (Wire sent k call references (Release n count)) = if same_id i (id k (not sent) n) then count else 0
gives_back i before e = count_by (same_id i) (introductions_at (closes before e))

-- how often a number was introduced
abbrev pub introduced_count : TableKey → Past → ℕ
introduced_count i past = sum_back (introduces i) past

-- how often it was given back
abbrev pub released_count : TableKey → Past → ℕ
released_count i past = sum_back (gives_back i) past

-- its reference count: introductions minus releases
abbrev pub held : TableKey → Past → ℕ
held i past = introduced_count i past - released_count i past

-- a number is in life while it is held
abbrev pub is_in_life : TableKey → Past → Bool
is_in_life i past = nat_lt 0 (held i past)

-- (rpc.capnp, CapDescriptor and Release: no more is given back than came)
-- COUNT: nothing gives back more than the count
abbrev pub GivesBackHeld : Past → DecodedRecord → Type 0
GivesBackHeld before e = (i : TableKey) → gives_back i before e ≤ held i before

-- the descriptor that began a life: its record, and its place there
pub record Birth : Type 0 where
  pub from : Point
  pub place : ℕ

-- the first introduction in a record before which the number was out of life
abbrev pub begins : TableKey → Past → DecodedRecord → Option Birth
begins i before e =
    if is_in_life i before || is_late before e then None else
    option_map (λ place. record { from = point before e; place = place }) (position_from (λ d. names i (number_introduced e d)) 0 (descriptors e))

-- where the present life of a number began
abbrev pub birth : TableKey → Past → Option Birth
birth i past = if is_in_life i past then last_answer (begins i) past else None

-- a descriptor is a senderPromise
abbrev pub is_promised : Option Descriptor → Bool
is_promised (Some (SenderPromise n)) = true
is_promised _ = false

-- a life began with a senderPromise; else with a senderHosted
abbrev pub began_promised : Birth → Bool
began_promised b = is_promised (slice_get (descriptors b.from.event) b.place)

-- the promise that a record resolves, one of the sender's exports
abbrev pub promise_resolved : DecodedRecord → Option TableKey
promise_resolved (Wire sent k call references (Resolve n resolution)) = Some (id k sent n)
promise_resolved _ = None

-- the Resolve of a number's present life: it came after the record that began that life
abbrev pub resolve_of : TableKey → Past → Option Point
resolve_of i past = if is_in_life i past then last_since (λ before e. is_some (begins i before e)) (λ before e. names i (promise_resolved e)) past else None

-- a Resolve passed in the present life of a number
abbrev pub is_resolved : TableKey → Past → Bool
is_resolved i past = is_some (resolve_of i past)

-- a descriptor is of a life's kind: both are a senderPromise, or neither is
abbrev pub is_of_kind : Descriptor → Birth → Bool
is_of_kind d b = beq (began_promised b) (is_promised (Some d))

-- the number that a descriptor of a record introduces, if it does, is introduced as its life's first descriptor did,
-- with the record itself counted, and no Resolve passed in its life before
abbrev pub keeps_kind : Past → DecodedRecord → Descriptor → Bool
keeps_kind before e d = option_map_or (λ i. option_map_or (is_of_kind d) (birth i (e ∷ before)) true && not (is_resolved i before)) (number_introduced e d) true

-- (rpc.capnp, CapDescriptor.senderHosted and senderPromise, and Resolve: after a promise is resolved its number isn't
-- introduced again)
-- each number that a record introduces has the kind of its life's first descriptor, and no Resolve passed in its
-- life. A late Return's descriptors count too, for a number that is in life
abbrev pub KeepsKinds : Past → DecodedRecord → Type 0
KeepsKinds before e = IsTrue (list_all (keeps_kind before e) (descriptors e))
