-- For the code's contracts, and no part of the meaning: a window of the bytes of a log that comes in pieces.
use Rattle.byte_pieces.specs.declared.fault.PieceFault.{PieceFault}
use Rattle.byte_pieces.specs.declared.fault.PieceFault.TheVariants as piece
use Rattle.std.specs.Prelude.{◌≡◌, ℕ, ◌+◌, true, ◌^◌, ◌<◌, ◌≤◌, List, ◌++◌, length, drop, Result, Ok, Err, nat_lt, if◌then◌else◌, All}
use Rattle.vat_log.specs.declared.body.Body.{Body}
use Rattle.vat_log.specs.declared.error.LogError.{LogError}
use Rattle.vat_log.specs.declared.error.LogError.TheVariants.{BadMagic, Short, BadKind, ZeroNumber, TooLong, OutOfMemory}
use Rattle.vat_log.specs.declared.version.LogVersion.{LogVersion}
use Rattle.vat_log.specs.declared.read_fault.ReadFault.{ReadFault}
use Rattle.vat_log.specs.declared.read_fault.ReadFault.TheVariants as fault
use Rattle.vat_log.specs.declared.read_fault.Stop.{Stop}
use Rattle.vat_log.specs.declared.read_fault.Stop.TheVariants as stop
use Rattle.vat_log.specs.Fits.{record_limit, LogFits}
use Rattle.vat_log.specs.Log.{Log}
use Rattle.vat_log.specs.Reading.{◌>>=◌, kind_at, fields_at, log_of}
use Rattle.vat_log.specs.Runs.{IsLongestRun}
use Rattle.vat_log.specs.Spelling.{log_bytes}
use Rattle.vat_log.specs.Streams.{StreamSoFar, StreamStopsBy}

-- the fault with its place counted from so many bytes before
abbrev pub counted_from : ℕ → LogError → LogError
counted_from n BadMagic = BadMagic
counted_from n (Short at) = Short (n + at)
counted_from n (BadKind at) = BadKind (n + at)
counted_from n (ZeroNumber at) = ZeroNumber (n + at)
counted_from n TooLong = TooLong
counted_from n OutOfMemory = OutOfMemory

-- The record that begins at this place, where so many stand before it. At the end of the bytes it is cut.
unfoldable pub record_at : LogVersion → ℕ → List ℕ → ℕ → Result (Body × ℕ) LogError
record_at version count bytes at =
    if nat_lt at (length bytes) then (do
      kind ← kind_at bytes at
      if nat_lt count record_limit then fields_at version kind bytes (at + 1) else Err TooLong)
    else Err (Short at)

-- The window begins at this place of what came and has all that came from there on; the log was read up to this place in it.
pub record HoldsRest (limit : ℕ) (came window : List ℕ) (log : Log) (begin at : ℕ) : Type 0 where
  pub octets : All (λ octet. octet < 2 ^ 8) window
  pub within : at ≤ length window
  pub from_begin : drop begin came ≡ window
  pub parts : came ≡ log_bytes log ++ drop at window
  pub places : length (log_bytes log) ≡ begin + at
  pub fits : LogFits limit log

-- why no more is read where no piece comes
abbrev pub fault_of_piece : PieceFault → ReadFault
fault_of_piece piece.CannotRead = fault.CannotRead
fault_of_piece piece.OutOfMemory = fault.OutOfMemory

-- the place of a fault, if it has one, and else the begin
abbrev pub place_of : LogError → ℕ
place_of (Short at) = at
place_of (BadKind at) = at
place_of (ZeroNumber at) = at
place_of _ = 0

-- a fault of bytes, and no want of memory
abbrev pub IsOfBytes : LogError → Type 0
IsOfBytes OutOfMemory = ⊥
IsOfBytes _ = Unit {0}

-- Why no more is read where a window that begins at this place has this fault.
abbrev pub FaultFrom : ℕ → LogError → ReadFault → Type 0
FaultFrom begin e (fault.Bad told) = (told ≡ counted_from begin e) × IsOfBytes e
FaultFrom begin e fault.CannotRead = 2 ^ 64 ≤ place_of (counted_from begin e)
FaultFrom begin e fault.OutOfMemory = Unit {0}

-- a field that is cut
abbrev pub IsCut : LogError → Type 0
IsCut (Short at) = Unit {0}
IsCut _ = ⊥

-- Why a window that begins at this place and has this fault gives no record.
abbrev pub StopFrom : ℕ → LogError → Stop → Type 0
StopFrom begin e stop.Ends = ⊥
StopFrom begin e (stop.Cut told) = FaultFrom begin e told
StopFrom begin e (stop.Fault told) = FaultFrom begin e told × (IsCut e → ⊥)

-- Why a window gives no record: all that came was given, or there is a fault if nothing more comes, or whatever comes.
abbrev pub StopsHere : Stop → StreamSoFar → Type 0
StopsHere stop.Ends read = (log_of read.came.bytes ≡ Ok read.log) × IsLongestRun read.came.bytes read.log
StopsHere (stop.Cut told) read = StreamStopsBy told (record read { came = record read.came { is_over = true } })
StopsHere (stop.Fault told) read = StreamStopsBy told read
