-- Which imports came in, and as what (rpc.capnp, the comments of CapDescriptor).
use Rattle.std.specs.Prelude.{ℕ, Bool, true, false, Option, Some, None, option_and_then, slice_get}
use Rattle.std.specs.Option.{option_map_or}
use Rattle.vat_view.specs.Types.{Descriptor, SenderHosted, SenderPromise, DecodedRecord, Wire}
use Rattle.decoded_records.specs.Past.{Past, record_at}
use Rattle.decoded_records.specs.Lives.{descriptors}

-- how an import came in: over which connection, and whether as senderHosted
pub record Arrival : Type 0 where
  pub connection : ℕ
  pub hosted : Bool

-- the import that a descriptor of a record brings: a received senderHosted or senderPromise brings one
abbrev pub brings : DecodedRecord → Descriptor → Option Arrival
brings (Wire false k call references m) (SenderHosted n) = Some (record { connection = k; hosted = true })
brings (Wire false k call references m) (SenderPromise n) = Some (record { connection = k; hosted = false })
brings _ _ = None

-- the import that a record brings at a place
abbrev pub brought_at : DecodedRecord → ℕ → Option Arrival
brought_at e place = option_and_then (brings e) (slice_get (descriptors e) place)

-- how the import came in that stands at this place of the record of this number. A view of an import is always the one
-- with which a number of the peer's came into life (specs/Views.antt, `view_given`), at this point or an earlier one. So
-- its record was received and introduces that number at its place, and each such view has an arrival: over the number's
-- connection, and hosted where the life didn't begin with a senderPromise. Of other places nothing is said
abbrev pub arrived : Past → ℕ → ℕ → Option Arrival
arrived past number place = option_and_then (λ e. brought_at e place) (record_at number past)

-- the import at this place of the record of this number came as senderHosted
abbrev pub came_hosted : Past → ℕ → ℕ → Bool
came_hosted past number place = option_map_or (λ a. a.hosted) (arrived past number place) false
