-- The frames of a connection, as far as the logs of its two ends were read: each direction by itself.
use Rattle.std.specs.Prelude.{ℕ, List, [], ◌∷◌, ◌++◌}
use Rattle.link_check.specs.Prefix.{Ends, frames_sent, frames_received}
use Rattle.lock_step.specs.declared.link_end.LinkEnd.{LinkEnd}
use Rattle.lock_step.specs.declared.link_end.LinkEnd.TheVariants.{First, Second}

-- what one end sent and what the other received, in order
pub record Direction : Type 0 where
  pub sent : List (List ℕ)
  pub received : List (List ℕ)

-- with one more that is sent
abbrev pub with_sent : List ℕ → Direction → Direction
with_sent frame way = record { sent = way.sent ++ frame ∷ []; received = way.received }

-- with one more that is received
abbrev pub with_received : List ℕ → Direction → Direction
with_received frame way = record { sent = way.sent; received = way.received ++ frame ∷ [] }

-- both directions: to the end with the smaller vat number, and to the other
pub record BothWays : Type 0 where
  pub to_first : Direction
  pub to_second : Direction

-- the direction to an end
abbrev pub way_to : LinkEnd → BothWays → Direction
way_to First ways = ways.to_first
way_to Second ways = ways.to_second

-- before any frame
abbrev pub nothing_passed : BothWays
nothing_passed = record { to_first = record { sent = []; received = [] }; to_second = record { sent = []; received = [] } }

-- with one more that an end sends: it goes to the other
abbrev pub with_sent_by : LinkEnd → List ℕ → BothWays → BothWays
with_sent_by First frame ways = record { to_first = ways.to_first; to_second = with_sent frame ways.to_second }
with_sent_by Second frame ways = record { to_first = with_sent frame ways.to_first; to_second = ways.to_second }

-- with one more that an end receives
abbrev pub with_received_by : LinkEnd → List ℕ → BothWays → BothWays
with_received_by First frame ways = record { to_first = with_received frame ways.to_first; to_second = ways.to_second }
with_received_by Second frame ways = record { to_first = ways.to_first; to_second = with_received frame ways.to_second }

-- what the logs of the two ends of a connection say
abbrev pub between : Ends → BothWays
between link = record {
  to_first = record { sent = frames_sent link.connection link.second; received = frames_received link.connection link.first };
  to_second = record { sent = frames_sent link.connection link.first; received = frames_received link.connection link.second };
}
