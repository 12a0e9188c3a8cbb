-- Frames on a connection, as the logs of its two ends have them. A link is first in, first out: what one vat received is a
-- prefix, byte for byte, of what the other sent.
use Rattle.std.specs.Prelude.{◌≡◌, ◌≢◌, ◌⊎◌, ℕ, ◌+◌, ◌<◌, List, ◌++◌, length, if◌then◌else◌, nat_lt, slice_get}
use Rattle.std.specs.List.{filter_map}
use Rattle.vat_log.specs.Log.{Log}
use Rattle.vat_log.specs.Passages.{frame_sent, frame_received}
use Rattle.link_check.specs.declared.link_outcome.LinkOutcome.{LinkOutcome}
use Rattle.link_check.specs.declared.link_outcome.LinkOutcome.TheVariants.{Good, Broken}

-- the frames that a vat sent on the connection, in order
abbrev pub frames_sent : ℕ → Log → List (List ℕ)
frames_sent connection log = filter_map (frame_sent connection) log.records

-- the frames that a vat received on the connection, in order
abbrev pub frames_received : ℕ → Log → List (List ℕ)
frames_received connection log = filter_map (frame_received connection) log.records

-- a connection and the logs of its two ends
pub record Ends : Type 0 where
  pub connection : ℕ
  pub first : Log
  pub second : Log

-- the ends, the smaller vat number first
abbrev pub ends_of : ℕ → Log → Log → Ends
ends_of connection a b = if nat_lt a.vat b.vat then record { connection = connection; first = a; second = b } else record { connection = connection; first = b; second = a }

-- what was received is a prefix of what was sent
abbrev pub IsPrefix : List (List ℕ) → List (List ℕ) → Type 0
IsPrefix frames_received frames_sent = (rest : List (List ℕ)) × (frames_sent ≡ frames_received ++ rest)

-- the message of this number was received and isn't the one sent; all before it are
pub record IsLeastFault (frames_received frames_sent : List (List ℕ)) (message : ℕ) : Type 0 where
  pub came : message < length frames_received
  pub differs : slice_get frames_sent message ≢ slice_get frames_received message
  pub least : (before : ℕ) → before < message → slice_get frames_sent before ≡ slice_get frames_received before

-- both ends received a prefix of what the other sent; the frames received, and those sent and not received
pub record IsGood (link : Ends) (delivered in_flight : ℕ) : Type 0 where
  pub at_first : IsPrefix (frames_received link.connection link.first) (frames_sent link.connection link.second)
  pub at_second : IsPrefix (frames_received link.connection link.second) (frames_sent link.connection link.first)
  pub came : delivered ≡ length (frames_received link.connection link.first) + length (frames_received link.connection link.second)
  pub went : delivered + in_flight ≡ length (frames_sent link.connection link.first) + length (frames_sent link.connection link.second)

-- the least fault is at the first end
pub record IsBrokenAtFirst (link : Ends) (at message : ℕ) : Type 0 where
  pub end : at ≡ link.first.vat
  pub fault : IsLeastFault (frames_received link.connection link.first) (frames_sent link.connection link.second) message

-- the first end has no fault, and the least fault is at the second
pub record IsBrokenAtSecond (link : Ends) (at message : ℕ) : Type 0 where
  pub end : at ≡ link.second.vat
  pub at_first : IsPrefix (frames_received link.connection link.first) (frames_sent link.connection link.second)
  pub fault : IsLeastFault (frames_received link.connection link.second) (frames_sent link.connection link.first) message

-- what an outcome says of a link
abbrev pub IsOutcome : Ends → LinkOutcome → Type 0
IsOutcome link (Good delivered in_flight) = IsGood link delivered in_flight
IsOutcome link (Broken at message) = IsBrokenAtFirst link at message ⊎ IsBrokenAtSecond link at message

-- what a finding carries: its ends are in order, and the outcome is theirs
pub record IsFinding (link : Ends) (outcome : LinkOutcome) : Type 0 where
  pub ordered : link.first.vat < link.second.vat
  pub means : IsOutcome link outcome
