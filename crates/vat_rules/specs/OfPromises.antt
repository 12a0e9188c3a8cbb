-- The rules on promises: own ones, which are kept or broken once, and those sent or received, which are resolved once.
use Rattle.std.specs.Prelude.{◌≡◌, ◌≢◌, ◌⊎◌, Bool, true, false, not, ◌&&◌, ◌||◌, Option, Some, IsTrue, slice_get, option_map, unwrap_or, ⊤}
use Rattle.vat_rules.specs.Types.{Edition, First, Later, Resolve, DecodedRecord, Fulfil, Break, Wire, View, Promise}
use Rattle.decoded_records.specs.declared.table_key.TableKey.{TableKey}
use Rattle.decoded_records.specs.Past.{Past, id}
use Rattle.decoded_records.specs.Lives.{birth, began_promised, descriptors, is_in_life, is_resolved}
use Rattle.decoded_records.specs.Views.{view_of_reference, view_of_number, view_of_descriptor}
use Rattle.vat_view.specs.Walks.{next, stays}
use Rattle.vat_rules.specs.Ways.{LeadsOnTo, BecameThere}
use Rattle.vat_rules.specs.OfCaps.{is_cap_at, is_own_number}

-- an own promise that was neither kept nor broken
abbrev pub IsUnkept : Past → Option View → Type 0
IsUnkept past (Some (Promise p)) = next past (Promise p) ≡ stays
IsUnkept past _ = ⊥

-- (this project's own: a promise is kept or broken once)
-- VOW: FULFIL and BREAK: the first reference stands for an own promise that has had neither
abbrev pub KeepsVow : Past → DecodedRecord → Type 0
KeepsVow before (Fulfil r to) = IsUnkept before (view_of_reference before r)
KeepsVow before (Break r) = IsUnkept before (view_of_reference before r)
KeepsVow before _ = ⊤

-- a number is in life, began as a senderPromise and has had no Resolve
abbrev pub is_unresolved : TableKey → Past → Bool
is_unresolved i past = unwrap_or (option_map began_promised (birth i past)) false && not (is_resolved i past)

-- what a promise stood for is resolved to this, given by a number of the sender's own or not: it leads there by 1 or more
-- turns, or in a log of the later edition became what another such number stands for
abbrev pub ResolvesTo : Edition → Bool → Past → Option View → Option View → Type 0
ResolvesTo First own past from to = LeadsOnTo past from to
ResolvesTo Later own past from to = LeadsOnTo past from to ⊎ (IsTrue own × BecameThere past from to × (from ≢ to))

-- (rpc.capnp, Resolve)
-- RESOLVE: SEND Resolve: the number is a senderPromise in life without a Resolve, and with a cap other than none its
-- view is resolved to what the descriptor stands for. RECV Resolve: the number is out of life, or is a
-- senderPromise without a Resolve
abbrev pub ResolvesPromise : Edition → Past → DecodedRecord → Type 0
ResolvesPromise edition before (Wire true k c rs (Resolve n resolution)) =
    let e = Wire true k c rs (Resolve n resolution) in
    IsTrue (is_unresolved (id k true n) before)
    × (is_cap_at (slice_get (descriptors e) 0) ≡ true →
    ResolvesTo edition (is_own_number (slice_get (descriptors e) 0)) before (view_of_number (id k true n) before) (view_of_descriptor before e 0))
ResolvesPromise edition before (Wire false k c rs (Resolve n resolution)) = IsTrue (not (is_in_life (id k false n) before) || is_unresolved (id k false n) before)
ResolvesPromise edition before _ = ⊤
