-- A log while it is read, some records ahead of what is taken of it.
use Rattle.std.specs.Prelude.{◌≡◌, ⊤, true, List, Option, Some, None, Ok, is_some}
use Rattle.vat_log.specs.Reading.{log_of}
use Rattle.vat_log.specs.Streams.{StreamSoFar, StreamStopsBy}
use Rattle.vat_log.specs.declared.body.Body.{Body}
use Rattle.turn_taking.specs.Lanes.{LaneSoFar}
use Rattle.log_lane.specs.declared.ending.Ending.{Ending}
use Rattle.log_lane.specs.declared.ending.Ending.TheVariants.{Whole, Fault}

-- what came of a log and was read, as a stream has it; the last of its records, which aren't taken yet; and why no more is
-- read, if none is
pub record ReadAhead : Type 0 where
  pub read : StreamSoFar
  pub ahead : List Body
  pub ending : Option Ending

-- as a lane of a case
abbrev pub as_lane : ReadAhead → LaneSoFar
as_lane lane = record { came = lane.read.came; log = lane.read.log; ahead = lane.ahead; has_ended = is_some lane.ending }

-- what an ending says of the log
abbrev pub EndsSo : Option Ending → StreamSoFar → Type 0
EndsSo None read = ⊤
EndsSo (Some Whole) read = (read.came.is_over ≡ true) × (log_of read.came.bytes ≡ Ok read.log)
EndsSo (Some (Fault fault)) read = StreamStopsBy fault read
