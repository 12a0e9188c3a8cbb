-- The rules on a connection as a whole: when it has ended, and when an embargo may be asked for and lifted.
use Rattle.std.specs.Prelude.{◌⊎◌, ℕ, Bool, true, false, not, is_some, IsTrue, IsSomeAnd, ⊤}
use Rattle.vat_rules.specs.Types.{Edition, First, Later, Sender, Receiver, Disembargo, DecodedRecord, Wire, View}
use Rattle.decoded_records.specs.Past.{Past, id}
use Rattle.decoded_records.specs.Views.{view_of_target}
use Rattle.decoded_records.specs.Loopbacks.{loopback_of, embargoed_view, IsHeldUp}
use Rattle.vat_view.specs.Connections.{is_aborted, is_aborted_here, LeadsOver, LeadsElsewhere, CameBack}
use Rattle.vat_rules.specs.Ways.{LeadsTo}

-- (rpc.capnp, Message.abort)
-- a connection takes nothing more from this vat: it was aborted, in a log of the first edition from either end, and in one
-- of the later edition by this vat, since an abort says nothing of what its receiver may still send
abbrev pub is_closed : Edition → ℕ → Past → Bool
is_closed First k past = is_aborted k past
is_closed Later k past = is_aborted_here k past

-- CLOSED: SEND: the connection isn't closed
abbrev pub IsOpen : Edition → Past → DecodedRecord → Type 0
IsOpen edition before (Wire true k c rs m) = IsTrue (not (is_closed edition k before))
IsOpen edition before _ = ⊤

-- a loopback may be sent over a connection for a view: that leads elsewhere; or, in a log of the later edition, it came back
abbrev pub LeadsAway : Edition → Past → View → ℕ → Type 0
LeadsAway First before v k = LeadsElsewhere First before v k
LeadsAway Later before v k = LeadsElsewhere Later before v k ⊎ CameBack before v k

-- (rpc.capnp, Disembargo)
-- EMB: SEND senderLoopback: the number isn't outstanding, and the target leads to an own object or promise, or to an
-- import of, or the field of a question on, another connection; in a log of the later edition, to whatever isn't an import
-- of, or the field of a question on, that connection, or to what came back over it. RECV senderLoopback: the number isn't pending, and the
-- target leads to an import of, or the field of a question on, that connection. SEND receiverLoopback: the number is
-- pending, what the pending target stood for leads to what the echo's target stands for, and no call holds the echo up.
-- RECV receiverLoopback: the number is outstanding
abbrev pub KeepsEmbargo : Edition → Past → DecodedRecord → Type 0
KeepsEmbargo edition before (Wire true k c rs (Disembargo n Sender target)) =
    IsTrue (not (is_some (loopback_of (id k true n) before)))
    × IsSomeAnd (view_of_target before (Wire true k c rs (Disembargo n Sender target))) (λ v. LeadsAway edition before v k)
KeepsEmbargo edition before (Wire false k c rs (Disembargo n Sender target)) =
    IsTrue (not (is_some (loopback_of (id k false n) before)))
    × IsSomeAnd (view_of_target before (Wire false k c rs (Disembargo n Sender target))) (λ v. LeadsOver before v k)
KeepsEmbargo edition before (Wire true k c rs (Disembargo n Receiver target)) =
    LeadsTo before (embargoed_view (id k false n) before) (view_of_target before (Wire true k c rs (Disembargo n Receiver target)))
    × ¬ IsHeldUp (id k false n) before
KeepsEmbargo edition before (Wire false k c rs (Disembargo n Receiver target)) = IsTrue (is_some (loopback_of (id k true n) before))
KeepsEmbargo edition before _ = ⊤
