-- The ends that connections have in a list of logs, what passed at each, and which two fit.
use Rattle.std.specs.Prelude.{◌≡◌, ◌≢◌, ◌⊎◌, ℕ, ◌+◌, ◌<◌, List, [], length, slice_index_or}
use Rattle.vat_log.specs.Log.{Log, written_version}
use Rattle.link_check.specs.Prefix.{IsPrefix, frames_sent, frames_received}
use Rattle.log_ends.specs.declared.log_end.LogEnd.{LogEnd}

-- the log at a place of the list, and one without records where the list has none
abbrev pub log_at : List Log → ℕ → Log
log_at logs place = slice_index_or logs place (record { version = written_version; vat = 0; records = [] })

-- the frames that were sent at an end, in order
abbrev pub sent_at : List Log → LogEnd → List (List ℕ)
sent_at logs end = frames_sent end.connection (log_at logs end.log)

-- the frames that were received at an end, in order
abbrev pub received_at : List Log → LogEnd → List (List ℕ)
received_at logs end = frames_received end.connection (log_at logs end.log)

-- the log has this connection: a frame passed there
abbrev pub IsEnd : List Log → LogEnd → Type 0
IsEnd logs end = 0 < length (sent_at logs end) + length (received_at logs end)

-- the order of ends: by the order of the logs first, and then by the connections' numbers
abbrev pub EndIsBefore : LogEnd → LogEnd → Type 0
EndIsBefore a b = (a.log < b.log) ⊎ ((a.log ≡ b.log) × (a.connection < b.connection))

-- Two ends of two logs fit: what each received are the first frames that the other sent, and one of them received some.
-- Where neither received any, nothing says that the one was the other's.
pub record Fits (logs : List Log) (a b : LogEnd) : Type 0 where
  pub apart : a.log ≢ b.log
  pub at_first : IsPrefix (received_at logs a) (sent_at logs b)
  pub at_second : IsPrefix (received_at logs b) (sent_at logs a)
  pub met : 0 < length (received_at logs a) + length (received_at logs b)

-- the same passed at both, in both directions
pub record AreAlike (logs : List Log) (a b : LogEnd) : Type 0 where
  pub sent : sent_at logs a ≡ sent_at logs b
  pub received : received_at logs a ≡ received_at logs b
