-- Loopbacks that wait for their echo, and what holds the echo up (rpc.capnp, the comments of Disembargo).
use Rattle.std.specs.Prelude.{◌≡◌, ℕ, ◌==◌, ◌&&◌, Bool, false, not, Option, Some, None, option_and_then, IsTrue}
use Rattle.decoded_records.specs.Types.{Sender, Receiver, Call, Disembargo, DecodedRecord, Wire, View, TableKey}
use Rattle.decoded_records.specs.Past.{Past, Point, id, names, last_since}
use Rattle.decoded_records.specs.Views.{view_of_target}
use Rattle.decoded_records.specs.Calls.{goal_of, is_at_vat, has_passed}

-- the number under which a record asks for an echo: one of the sender's
abbrev pub sender_loopback : DecodedRecord → Option TableKey
sender_loopback (Wire sent k call references (Disembargo n Sender target)) = Some (id k sent n)
sender_loopback _ = None

-- the number that a record echoes: one of the receiver's
abbrev pub receiver_loopback : DecodedRecord → Option TableKey
receiver_loopback (Wire sent k call references (Disembargo n Receiver target)) = Some (id k (not sent) n)
receiver_loopback _ = None

-- the senderLoopback that went under a number and whose echo hasn't passed since: of a number of ours it is
-- outstanding, of the peer's it is pending
abbrev pub loopback_of : TableKey → Past → Option Point
loopback_of i past = last_since (λ before e. names i (receiver_loopback e)) (λ before e. names i (sender_loopback e)) past

-- what the target of the senderLoopback that waits under a number stood for then
abbrev pub embargoed_view : TableKey → Past → Option View
embargoed_view i past = option_and_then (λ p. view_of_target p.before p.event) (loopback_of i past)

-- a record receives this call on this connection
abbrev pub receives_call : ℕ → ℕ → Past → DecodedRecord → Bool
receives_call connection call before (Wire false k c references (Call head target params)) = (k == connection) && (c == call)
receives_call connection call before _ = false

-- the echo of a senderLoopback is held up: a call that was received on its connection before it, and whose goal is what
-- its target stood for then, is still at the vat
abbrev pub HeldUp : Past → ℕ → Point → Type 0
HeldUp past connection p =
    (call : ℕ) × IsTrue (has_passed (receives_call connection call) p.before) × (goal_of call past ≡ view_of_target p.before p.event) × IsTrue (is_at_vat call past)

-- the senderLoopback that waits under a number is held up
abbrev pub IsHeldUp : TableKey → Past → Type 0
IsHeldUp i past = (p : Point) × (loopback_of i past ≡ Some p) × HeldUp past i.connection p
