-- How far a log has come while it is made.
use Rattle.std.specs.Prelude.{◌≡◌, ℕ, ◌≤◌, ⊤, List, length, take}
use Rattle.vat_log.specs.Fits.{record_limit}
use Rattle.vat_log.specs.Log.{Log}
use Rattle.link_check.specs.Prefix.{frames_sent, frames_received}
use Rattle.wire_steps.specs.Parts.{connection, UsesNoOther}
use Rattle.wire_steps.specs.declared.end_log.EndCounts.{EndCounts}
use Rattle.wire_steps.specs.declared.end_log.NextMessage.{NextMessage}
use Rattle.wire_steps.specs.declared.end_log.NextMessage.TheVariants.{Own, Peers}
use Rattle.wire_steps.specs.declared.end_log.NoRoom.TheVariants.{Full, Unlisted}
use Rattle.wire_steps.specs.declared.end_log.NotPushed.{NotPushed}
use Rattle.wire_steps.specs.declared.end_log.NotPushed.TheVariants as refusal

-- so many frames of the own file are sent in it, and so many of the other one received
pub record HasCome (own peer : List (List ℕ)) (counts : EndCounts) (log : Log) : Type 0 where
  pub sent : frames_sent connection log ≡ take counts.sent own
  pub received : frames_received connection log ≡ take counts.received peer
  pub few_sent : counts.sent ≤ length own
  pub few_received : counts.received ≤ length peer
  pub no_other : UsesNoOther log

-- by these counts this message comes next
abbrev pub IsEnd : EndCounts → NextMessage → Type 0
IsEnd counts (Own message) = message ≡ counts.sent
IsEnd counts (Peers message) = message ≡ counts.received

-- why a log has no room
abbrev pub IsWhy : Log → NotPushed → Type 0
IsWhy log (refusal.NoRoom Full) = length log.records ≡ record_limit
IsWhy log (refusal.NoRoom Unlisted) = ⊤
IsWhy log refusal.OutOfMemory = ⊤

-- a step is refused: the log is as it was
pub record IsRefused (old new : Log) (why : NotPushed) : Type 0 where
  pub kept : new ≡ old
  pub reason : IsWhy old why
