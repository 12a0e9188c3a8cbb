-- The links of a case, as far as turns were taken.
use Rattle.std.specs.Prelude.{◌≡◌, ℕ, ◌==◌, ◌&&◌, not, List, Option, find}
use Rattle.std.specs.List.{filter_map}
use Rattle.vat_log.specs.Log.{Log}
use Rattle.vat_log.specs.Passages.{frame_sent, frame_received}
use Rattle.link_check.specs.Prefix.{Ends, IsOutcome}
use Rattle.link_check.specs.declared.link_outcome.LinkOutcome.{LinkOutcome}
use Rattle.lock_step.specs.Directions.{BothWays}
use Rattle.turn_taking.specs.Turns.{Turns, records_taken, AreAll}
use Rattle.case_book.specs.Pieces.{IsComparisonOf}
use Rattle.case_book.specs.declared.link.Link.{Link}

-- links, and the turns that were taken, the newest first
pub record LinkTurns : Type 0 where
  pub links : List Link
  pub turns : Turns

-- the link of a connection: the first there that has two vats as its ends
abbrev pub link_on : List Link → ℕ → Option Link
link_on links k = find (λ link. (link.connection == k) && not (link.a == link.b)) links

-- what two vats sent and received on a connection by these turns
abbrev pub ways_of : ℕ → ℕ → ℕ → Turns → BothWays
ways_of k first second turns = record {
  to_first = record { sent = filter_map (frame_sent k) (records_taken second turns); received = filter_map (frame_received k) (records_taken first turns) };
  to_second = record { sent = filter_map (frame_sent k) (records_taken first turns); received = filter_map (frame_received k) (records_taken second turns) };
}

-- what is found of a link, whatever logs these turns are all records of; and nothing else is
pub record IsFoundOf (link : Link) (turns : Turns) (outcome : LinkOutcome) : Type 0 where
  pub found : (logs : List Log) (ends : Ends) → AreAll logs turns → IsComparisonOf logs link ends → IsOutcome ends outcome
  pub only : (logs : List Log) (ends : Ends) (other : LinkOutcome) → AreAll logs turns → IsComparisonOf logs link ends → IsOutcome ends other → other ≡ outcome
