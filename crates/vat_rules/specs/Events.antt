-- The records of a log as they are judged, with their messages read.
use Rattle.std.specs.Prelude.{ℕ, List, take, reverse, Option, Some, None, Result, Ok, Err}
use Rattle.std.specs.List.{filter_map}
use Rattle.vat_log.specs.declared.body.Body.{Body}
use Rattle.vat_rules.specs.Types.{RpcMessage, DecodedRecord}
use Rattle.decoded_records.specs.Decoding.{decoded_by}
use Rattle.decoded_records.specs.Past.{Past}
use Rattle.vat_rules.specs.declared.outcome.Why.{Why}

-- how frames are read: a frame's message, or why it is outside
abbrev pub Reader : Type 0
Reader = List ℕ → Result RpcMessage Why

-- a stored record as it is judged: with its message read
abbrev pub event_of : Reader → Body → Result DecodedRecord Why
event_of read b = decoded_by read b

-- the event, where the record is read
abbrev pub event_or_none : Result DecodedRecord Why → Option DecodedRecord
event_or_none (Ok e) = Some e
event_or_none (Err why) = None

-- the records of a log before number i, in their order
abbrev pub events_before : Reader → List Body → ℕ → List DecodedRecord
events_before read log i = filter_map (λ b. event_or_none (event_of read b)) (take i log)

-- the same, the newest first
abbrev pub past_at : Reader → List Body → ℕ → Past
past_at read log i = reverse (events_before read log i)
