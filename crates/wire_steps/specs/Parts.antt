-- What the log of one end has of the frames of the two files.
use Rattle.std.specs.Prelude.{◌≡◌, ℕ, ⊤, List, length, Option, Some, None, IfSome}
use Rattle.std.specs.List.{All}
use Rattle.vat_log.specs.Fits.{record_limit}
use Rattle.vat_log.specs.Log.{Log}
use Rattle.vat_log.specs.Passages.{used_by}
use Rattle.vat_log.specs.declared.body.Body.{Body}
use Rattle.link_check.specs.Prefix.{IsPrefix, frames_sent, frames_received}
use Rattle.wire_steps.specs.declared.end_log.EarlyEnd.{EarlyEnd}
use Rattle.wire_steps.specs.declared.end_log.NextMessage.{NextMessage}
use Rattle.wire_steps.specs.declared.end_log.NextMessage.TheVariants.{Own, Peers}
use Rattle.wire_steps.specs.declared.end_log.NoRoom.TheVariants.{Full}

-- the number of the connection, in both logs
abbrev pub connection : ℕ
connection = 0

-- no record sends or receives a frame on another connection
abbrev pub UsesNoOther : Log → Type 0
UsesNoOther log = All (λ body. IfSome (used_by body) (λ used. used ≡ connection)) log.records

-- what is sent are frames of the own file from the first one on, byte for byte and in order, and what is received are
-- frames of the other file
pub record HasParts (own peer : List (List ℕ)) (log : Log) : Type 0 where
  pub sent : IsPrefix (frames_sent connection log) own
  pub received : IsPrefix (frames_received connection log) peer
  pub no_other : UsesNoOther log

-- what is sent are all frames of the own file, and what is received are all of the other one
pub record HasAll (own peer : List (List ℕ)) (log : Log) : Type 0 where
  pub sent : frames_sent connection log ≡ own
  pub received : frames_received connection log ≡ peer
  pub no_other : UsesNoOther log

-- behind the frames that the log has, this message comes next
abbrev pub IsNext : Log → NextMessage → Type 0
IsNext log (Own message) = message ≡ length (frames_sent connection log)
IsNext log (Peers message) = message ≡ length (frames_received connection log)

-- the log has as many records as a log may have, and this message would come next
pub record IsFullBefore (next : NextMessage) (log : Log) : Type 0 where
  pub full : length log.records ≡ record_limit
  pub message : IsNext log next

-- a log that is said to end since it is full is so
abbrev pub EndsFull : Option EarlyEnd → Log → Type 0
EndsFull (Some early) log = early.why ≡ Full → IsFullBefore early.next log
EndsFull None log = ⊤
