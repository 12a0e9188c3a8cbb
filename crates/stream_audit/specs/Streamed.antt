-- The audit of a case whose logs come in streams: what came of each, and what is answered of them.
use Rattle.std.specs.Prelude.{◌≡◌, ◌<◌, ℕ, ⊤, true, List, [], ◌∷◌, map, take, Option, Some, None, Ok, IsSomeAnd, slice_get}
use Rattle.std.specs.Option.{option_map}
use Rattle.vat_log.specs.Log.{Log}
use Rattle.vat_log.specs.Reading.{log_of}
use Rattle.vat_log.specs.Streams.{StreamStopsBy}
use Rattle.vat_log.specs.declared.read_fault.ReadFault.{ReadFault}
use Rattle.log_lane.specs.Lanes.{ReadAhead, as_lane}
use Rattle.turn_taking.specs.Pass.{AreFurther}
use Rattle.case_book.specs.Case.{Contents, HoldsJust, IsCase, case_refusal_of}
use Rattle.case_book.specs.Ties.{tie_fault_of}
use Rattle.case_book.specs.declared.link.Link.{Link}
use Rattle.case_book.specs.declared.ties.TieFault.{TieFault}
use Rattle.case_book.specs.declared.ties.TieFault.TheVariants as tie
use Rattle.audit_core.specs.Lines.{IsLineOf, LineMeansHeadline}
use Rattle.audit_core.specs.Refusals.{worker_limit}
use Rattle.audit_core.specs.Report.{HoldsOfEach}
use Rattle.case_report.specs.declared.report.Report.{Report}
use Rattle.stream_audit.specs.declared.error.StreamError.{StreamError}
use Rattle.stream_audit.specs.declared.error.StreamError.TheVariants as error

-- of each log only the header was read
pub record IsFreshLane (o : Option ReadAhead) : Type 0 where
  pub lane : ReadAhead
  pub there : o ≡ Some lane
  pub none : lane.read.log.records ≡ []
  pub ahead : lane.ahead ≡ []

abbrev pub AreFresh : List (Option ReadAhead) → Type 0
AreFresh lanes = HoldsOfEach IsFreshLane lanes

-- each lane is one that was there at its place before, and what came of its log, and was read of it, goes on
abbrev pub AreReadOn : List (Option ReadAhead) → List (Option ReadAhead) → Type 0
AreReadOn lanes longer = AreFurther (map (option_map as_lane) lanes) (map (option_map as_lane) longer)

-- a log came whole: all its bytes came, and they spell it
pub record CameWhole (lane : Option ReadAhead) (log : Log) : Type 0 where
  pub read : ReadAhead
  pub there : lane ≡ Some read
  pub over : read.read.came.is_over ≡ true
  pub spelled : log_of read.read.came.bytes ≡ Ok log

-- these logs came whole, one in each lane
abbrev pub AreReadWhole : List (Option ReadAhead) → List Log → Type 0
AreReadWhole [] [] = ⊤
AreReadWhole (lane ∷ lanes) (log ∷ logs) = CameWhole lane log × AreReadWhole lanes logs
AreReadWhole _ _ = ⊥

-- a log has this fault, or it can't be read
pub record CameToFault (lane : Option ReadAhead) (fault : ReadFault) : Type 0 where
  pub read : ReadAhead
  pub there : lane ≡ Some read
  pub stops : StreamStopsBy fault read.read

-- the logs that came whole and these links make this case
pub record MakeCase (lanes : List (Option ReadAhead)) (links : List Link) (held : Contents) : Type 0 where
  pub logs : List Log
  pub whole : AreReadWhole lanes logs
  pub accepted : case_refusal_of logs links ≡ None
  pub just : HoldsJust logs links held
  pub case : IsCase held

-- what is answered of the case that came, and what a yes means
pub record IsLineOfStreams (lanes : List (Option ReadAhead)) (links : List Link) (given : Option (List ℕ)) (answer : Report) : Type 0 where
  pub held : Contents
  pub made : MakeCase lanes links held
  pub tied : tie_fault_of held ≡ None
  pub line : IsLineOf held given answer
  pub headline : LineMeansHeadline held.logs answer

-- the first log that isn't whole stands at this place, and has this fault
pub record IsFirstFault (lanes : List (Option ReadAhead)) (place : ℕ) (fault : ReadFault) : Type 0 where
  pub before : List Log
  pub whole : AreReadWhole (take place lanes) before
  pub own : IsSomeAnd (slice_get lanes place) (λ lane. CameToFault lane fault)

-- the case that came doesn't tie up
pub record IsUntied (lanes : List (Option ReadAhead)) (links : List Link) (fault : TieFault) : Type 0 where
  pub held : Contents
  pub made : MakeCase lanes links held
  pub untied : tie_fault_of held ≡ Some fault

-- Why there is no report. Where memory was wanted nothing is said.
abbrev pub IsRefusalOf : List (Option ReadAhead) → List Link → ℕ → StreamError → Type 0
IsRefusalOf lanes links workers error.NoWorkers = workers ≡ 0
IsRefusalOf lanes links workers error.TooManyWorkers = worker_limit < workers
IsRefusalOf lanes links workers (error.Log place fault) = IsFirstFault lanes place fault
IsRefusalOf lanes links workers (error.Refused fault) = (logs : List Log) × AreReadWhole lanes logs × (case_refusal_of logs links ≡ Some fault)
IsRefusalOf lanes links workers (error.MissingLog connection) = IsUntied lanes links (tie.MissingLog connection)
IsRefusalOf lanes links workers (error.SameEnds connection) = IsUntied lanes links (tie.SameEnds connection)
IsRefusalOf lanes links workers error.OutOfMemory = Unit {0}
