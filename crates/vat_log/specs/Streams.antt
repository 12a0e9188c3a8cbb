-- A log that comes in pieces, as from a file: what came of it so far, and what was read of that.
use Rattle.std.specs.Prelude.{◌≡◌, ◌⊎◌, ℕ, ◌^◌, ◌≤◌, List, length, Some, Err}
use Rattle.byte_pieces.specs.Coming.{CameSoFar, MayBeAll}
use Rattle.byte_pieces.specs.declared.fault.PieceFault.TheVariants as piece
use Rattle.vat_log.specs.declared.read_fault.ReadFault.{ReadFault}
use Rattle.vat_log.specs.declared.read_fault.ReadFault.TheVariants.{Bad, CannotRead, OutOfMemory}
use Rattle.vat_log.specs.Log.{Log}
use Rattle.vat_log.specs.Reading.{header_of, log_of}
use Rattle.vat_log.specs.Runs.{IsLongestRun}

-- what came so far, and the log that was read of it so far
pub record StreamSoFar : Type 0 where
  pub came : CameSoFar
  pub log : Log

-- bytes can't be read to their end: no more can be read of them, or there are 2^64 or more
abbrev pub CannotBeRead : CameSoFar → Type 0
CannotBeRead came = (came.fault ≡ Some piece.CannotRead) ⊎ (2 ^ 64 ≤ length came.bytes)

-- Why no more is read: this is the fault of all bytes, whatever comes, and what was read is all that stands whole in front
-- of it; or they can't be read, or memory was refused.
abbrev pub StreamStopsBy : ReadFault → StreamSoFar → Type 0
StreamStopsBy (Bad e) read = (all : List ℕ) → MayBeAll read.came.bytes read.came.is_over all → (log_of all ≡ Err e) × IsLongestRun all read.log
StreamStopsBy CannotRead read = CannotBeRead read.came
StreamStopsBy OutOfMemory read = Unit {0}

-- Why no log begins: this is the fault of the header of all bytes, whatever comes; or they can't be read, or memory was
-- refused.
abbrev pub NoLogBegins : ReadFault → CameSoFar → Type 0
NoLogBegins (Bad e) came = (all : List ℕ) → MayBeAll came.bytes came.is_over all → (header_of all ≡ Err e) × (log_of all ≡ Err e)
NoLogBegins CannotRead came = CannotBeRead came
NoLogBegins OutOfMemory came = Unit {0}
