-- What the audit of a log finds within limits.
use Rattle.std.specs.Prelude.{Result, Ok, Err}
use Rattle.cap_reader.specs.declared.limits.Limits.{Limits}
use Rattle.rpc_view.specs.declared.message.RpcMessage.{RpcMessage}
use Rattle.rpc_view.specs.declared.view_error.Outside.{Outside}
use Rattle.rpc_view.specs.declared.view_error.Outside.TheVariants as outside
use Rattle.rpc_view.specs.declared.view_error.ViewError.{ViewError}
use Rattle.rpc_view.specs.declared.view_error.ViewError.TheVariants as errors
use Rattle.rpc_view.specs.Message.{message_of_bytes}
use Rattle.vat_log.specs.Log.{Log}
use Rattle.vat_log.specs.declared.version.LogVersion.{LogVersion}
use Rattle.vat_log.specs.declared.version.LogVersion.TheVariants.{One, Two, Three}
use Rattle.vat_rules.specs.declared.outcome.Outcome.{Outcome}
use Rattle.vat_rules.specs.declared.outcome.Why.{Why}
use Rattle.vat_rules.specs.declared.outcome.Why.TheVariants as why
use Rattle.vat_rules.specs.Events.{Reader}
use Rattle.vat_rules.specs.First.{IsFirst}
use Rattle.vat_rules.specs.Types.{Edition, First, Later}

-- what a message has that is outside of level 1
abbrev pub why_outside : Outside → Why
why_outside outside.Level = why.Level
why_outside outside.Unimplemented = why.Unimplemented
why_outside outside.LaterField = why.LaterField

-- why a record is outside whose frame isn't read as a message
abbrev pub why_of : ViewError → Why
why_of (errors.Outside reason) = why_outside reason
why_of e = why.Unread

-- the message that a frame's bytes give, or why it is outside
abbrev pub read_as : Result RpcMessage ViewError → Result RpcMessage Why
read_as (Ok m) = Ok m
read_as (Err e) = Err (why_of e)

-- frames are read within the limits by an edition
abbrev pub reads_by : Edition → Limits → Reader
reads_by edition limits bytes = read_as (message_of_bytes edition bytes limits)

-- frames are read by the later edition, which reads what the first one does
abbrev pub reads_within : Limits → Reader
reads_within limits bytes = reads_by Later limits bytes

-- the edition of rpc.capnp that a version's runtime speaks
abbrev pub edition_of_version : LogVersion → Edition
edition_of_version One = First
edition_of_version Two = First
edition_of_version Three = Later

-- the edition by which a log is judged
abbrev pub edition_of : Log → Edition
edition_of log = edition_of_version log.version

-- what an audit carries: the log, the limits within which it read frames, and the outcome
pub record Found : Type 0 where
  pub log : Log
  pub limits : Limits
  pub outcome : Outcome

-- the outcome is what the rules say of the log
abbrev pub IsTrueOf : Log → Limits → Outcome → Type 0
IsTrueOf log limits outcome = IsFirst (edition_of log) (reads_by (edition_of log) limits) log.records outcome
