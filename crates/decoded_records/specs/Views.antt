-- What references, numbers, descriptors and targets stand for (rpc.capnp, the comments of CapDescriptor,
-- MessageTarget and PromisedAnswer).
use Rattle.std.specs.Prelude.{ℕ, ◌+◌, ◌==◌, List, [], ◌∷◌, map, Bool, true, false, not, Option, Some, None, if◌then◌else◌, slice_get, option_and_then, option_map, find}
use Rattle.std.specs.List.{zip}
use Rattle.std.specs.Option.{option_or}
use Rattle.decoded_records.specs.Types.{Descriptor, NoCap, SenderHosted, SenderPromise, ReceiverHosted, ReceiverAnswer, Target, Imported, Promised, RpcMessage, Call, Disembargo, DecodedRecord, Host, Vow, Field, Wire, View, Object, Promise, FieldOf, Import, TableKey}
use Rattle.decoded_records.specs.Past.{Past, id, record_index}
use Rattle.decoded_records.specs.Questions.{call_of}
use Rattle.decoded_records.specs.Lives.{Birth, birth, descriptors}

-- the places of the descriptors that aren't none, counted from k
abbrev pub places_from : ℕ → List Descriptor → List ℕ
places_from k [] = []
places_from k (NoCap ∷ ds) = places_from (k + 1) ds
places_from k (_ ∷ ds) = k ∷ places_from (k + 1) ds

-- those of a record
abbrev pub places : DecodedRecord → List ℕ
places e = places_from 0 (descriptors e)

-- the references noted beside a record
abbrev pub references : DecodedRecord → List ℕ
references (Wire sent k call noted m) = noted
references _ = []

-- the noted references, each with the place of its descriptor
abbrev pub placed_references : DecodedRecord → List (ℕ × ℕ)
placed_references e = zip (references e) (places e)

-- what a life's first descriptor stands for: at the exporter the view of the noted reference, at the importer the
-- import
abbrev pub view_given : (ℕ → Option View) → Bool → Birth → Option View
view_given named true b = option_and_then (λ n. named n.0) (find (λ n. n.1 == b.place) (placed_references b.from.event))
view_given named false b = Some (Import (record_index b.from) b.place)

-- an export or import in life stands for the view given by the descriptor that began its life, where references are
-- named
abbrev pub number_view : (ℕ → Option View) → TableKey → Past → Option View
number_view named i past = option_and_then (view_given named i.ours) (birth i past)

-- a question with a path stands for a field of its call
abbrev pub field_view : TableKey → List ℕ → Past → Option View
field_view q path past = option_map (λ call. FieldOf call path) (call_of q past)

-- a descriptor stands for what its number or its field does, a sender's number with the record itself counted
abbrev pub descriptor_view : (ℕ → Option View) → Past → DecodedRecord → Descriptor → Option View
descriptor_view named before (Wire sent k c rs m) (SenderHosted n) = number_view named (id k sent n) (Wire sent k c rs m ∷ before)
descriptor_view named before (Wire sent k c rs m) (SenderPromise n) = number_view named (id k sent n) (Wire sent k c rs m ∷ before)
descriptor_view named before (Wire sent k c rs m) (ReceiverHosted n) = number_view named (id k (not sent) n) before
descriptor_view named before (Wire sent k c rs m) (ReceiverAnswer q path) = field_view (id k sent q) path before
descriptor_view named before _ _ = None

-- what the descriptor at a place stands for, where references are named
abbrev pub described_at : (ℕ → Option View) → Past → DecodedRecord → ℕ → Option View
described_at named before e place = option_and_then (descriptor_view named before e) (slice_get (descriptors e) place)

-- the view to which a record binds a reference, where the references before it are named
abbrev pub binds : (ℕ → Option View) → Past → DecodedRecord → ℕ → Option View
binds named before (Host q object) r = if q == r then Some (Object object) else None
binds named before (Vow q) r = if q == r then Some (Promise q) else None
binds named before (Field q call path) r = if q == r then Some (FieldOf call path) else None
binds named before (Wire false k c rs m) r =
    option_and_then (λ n. described_at named before (Wire false k c rs m) n.1) (find (λ n. n.0 == r) (placed_references (Wire false k c rs m)))
binds named before _ r = None

-- the view of a reference
abbrev pub view_of_reference : Past → ℕ → Option View
view_of_reference [] r = None
view_of_reference (e ∷ before) r = option_or (binds (view_of_reference before) before e r) (view_of_reference before r)

-- what an export or import number stands for
abbrev pub view_of_number : TableKey → Past → Option View
view_of_number i past = number_view (view_of_reference past) i past

-- what the descriptor at a place of a record stands for
abbrev pub view_of_descriptor : Past → DecodedRecord → ℕ → Option View
view_of_descriptor before e place = described_at (view_of_reference before) before e place

-- what the descriptors of a record stand for, by place
abbrev pub views_of_descriptors : Past → DecodedRecord → List (Option View)
views_of_descriptors before e = map (descriptor_view (view_of_reference before) before e) (descriptors e)

-- the target of a message
abbrev pub target_of : RpcMessage → Option Target
target_of (Call head target params) = Some target
target_of (Disembargo number loopback target) = Some target
target_of _ = None

-- what a target stands for, sent or received on a connection: one of the receiver's exports, or a field of a question
-- of the sender's
abbrev pub target_view : Past → ℕ → Bool → Target → Option View
target_view before k sent (Imported n) = view_of_number (id k (not sent) n) before
target_view before k sent (Promised q path) = field_view (id k sent q) path before

-- what a record's target stands for
abbrev pub view_of_target : Past → DecodedRecord → Option View
view_of_target before (Wire sent k call rs m) = option_and_then (target_view before k sent) (target_of m)
view_of_target before _ = None
