-- The rules on capability tables: what is given away is what is noted, and what comes in is noted.
use Rattle.std.specs.Prelude.{◌≡◌, ℕ, [], Bool, true, false, Option, Some, None, IsTrue, slice_get}
use Rattle.std.specs.List.{AllByRecursion}
use Rattle.vat_rules.specs.Types.{Edition, Descriptor, NoCap, SenderHosted, SenderPromise, Return, DecodedRecord, Wire, View, Object, Import}
use Rattle.decoded_records.specs.Past.{Past}
use Rattle.vat_view.specs.Arrivals.{came_hosted}
use Rattle.decoded_records.specs.Questions.{is_late}
use Rattle.decoded_records.specs.Lives.{descriptors, KeepsKinds}
use Rattle.decoded_records.specs.Views.{references, placed_references, view_of_reference, view_of_descriptor}
use Rattle.decoded_records.specs.Bindings.{NotesEach}
use Rattle.vat_rules.specs.Ways.{GoesFor, EndsIn}

-- a frame went out
abbrev pub is_sent : DecodedRecord → Bool
is_sent (Wire sent k call references m) = sent
is_sent _ = false

-- a frame came in
abbrev pub is_received : DecodedRecord → Bool
is_received (Wire false k call references m) = true
is_received _ = false

-- there is a descriptor, and it isn't none
abbrev pub is_cap_at : Option Descriptor → Bool
is_cap_at None = false
is_cap_at (Some NoCap) = false
is_cap_at (Some _) = true

-- a descriptor names a number of its sender's own
abbrev pub is_own_number : Option Descriptor → Bool
is_own_number (Some (SenderHosted n)) = true
is_own_number (Some (SenderPromise n)) = true
is_own_number _ = false

-- a descriptor is senderHosted
abbrev pub is_hosted : Option Descriptor → Bool
is_hosted (Some (SenderHosted n)) = true
is_hosted _ = false

-- an own object, or an import that came as senderHosted
abbrev pub is_hosted_end : Past → View → Bool
is_hosted_end past (Object object) = true
is_hosted_end past (Import number place) = came_hosted past number place
is_hosted_end past _ = false

-- a noted reference goes for what the descriptor at its place stands for; if that is senderHosted, every end of its view
-- is an own object or an import that came as senderHosted
abbrev pub NotesView : Edition → Past → DecodedRecord → ℕ × ℕ → Type 0
NotesView edition before e (r, place) =
    GoesFor edition before (view_of_reference before r) (view_of_descriptor before e place)
    × (is_hosted (slice_get (descriptors e) place) ≡ true → EndsIn before (view_of_reference before r) (λ end. IsTrue (is_hosted_end before end)))

-- a record is a Return that says that no Finish is needed
abbrev pub is_light_return : DecodedRecord → Bool
is_light_return (Wire sent k call references (Return head outcome)) = head.light
is_light_return _ = false

-- (rpc.capnp, CapDescriptor and Return.noFinishNeeded; that references are noted is this project's own)
-- DESC: SEND: one reference is noted for each descriptor that isn't none, and it leads to what the descriptor stands
-- for, or in a log of the later edition is one with it; a senderHosted's leads to an own object or an import that came so; a Return that says that no Finish is needed has no
-- such descriptor. SEND and RECV: a number in life keeps its kind, and isn't introduced after its Resolve. A late Return
-- notes no reference, and nothing more is asked of it
pub record Describes (edition : Edition) (before : Past) (e : DecodedRecord) : Type 0 where
  pub noted_each : is_sent e ≡ true → NotesEach before e
  pub leads : is_sent e ≡ true → is_late before e ≡ false → AllByRecursion (NotesView edition before e) (placed_references e)
  pub light : is_sent e ≡ true → is_late before e ≡ false → is_light_return e ≡ true → references e ≡ []
  pub kinds : is_late before e ≡ false → KeepsKinds before e

-- (this project's own: what came in has references)
-- RECVREF: RECV: one reference is noted for each descriptor that isn't none, and none beside a late Return
abbrev pub BindsEach : Past → DecodedRecord → Type 0
BindsEach before e = is_received e ≡ true → NotesEach before e
