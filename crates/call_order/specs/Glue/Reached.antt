-- For the code's contracts, and no part of the meaning: when what is kept is that of the turns so far.
use Rattle.std.specs.List.{zip}
use Rattle.std.specs.Prelude.{◌≡◌, ℕ, List, [], ◌∷◌, Bool, ⊤, Option, Some, None, Ok, if◌then◌else◌}
use Rattle.agree.specs.Rows.{Row, log_of_vat}
use Rattle.call_order.specs.Glue.Counts.{taken_count, turns_counted}
use Rattle.call_order.specs.Glue.UnderWay.{AreUnderWay}
use Rattle.call_order.specs.Glue.Names.{AreNamed}
use Rattle.call_order.specs.Glue.Told.{calls_told}
use Rattle.call_order.specs.declared.taken_counts.TakenCounts.{TakenCounts}
use Rattle.call_order.specs.declared.order_tables.OrderTables.{OrderTables}
use Rattle.call_trace.specs.Running.{steps_by, IsNamedRow, MayRun}
use Rattle.call_trace.specs.Types.{Step}
use Rattle.turn_taking.specs.Turns.{Turns}
use Rattle.undelivered.specs.OfRuns.{moments_of}
use Rattle.vat_log.specs.declared.body.Body.{Body}
use Rattle.vat_rules.specs.Events.{Reader, event_of}

-- the turns of these vats and records, none once memory was refused
abbrev pub turns_unless : Bool → List ℕ → List Body → Option Turns
turns_unless refused vats records = if refused then None else Some (zip vats records)

-- a row of these turns' records, each with its message read
abbrev pub AreRead : Row → Turns → Type 0
AreRead [] [] = ⊤
AreRead (r ∷ row) (turn ∷ turns) = (r.0 ≡ turn.0) × ((read : Reader) × (event_of read turn.1 ≡ Ok r.1)) × AreRead row turns
AreRead _ _ = ⊥

-- the tables are those of the steps that a row of records takes
pub record AreKept (row : Row) (before : List Step) (tables : OrderTables) : Type 0 where
  pub named : (v : ℕ) → AreNamed v (log_of_vat v row) (steps_by v before) tables.names
  pub under_way : AreUnderWay before tables.under_way
  pub told : (v : ℕ) → calls_told tables.told v ≡ moments_of v before

-- the tables are those of the steps of these turns' records, where these have any
abbrev pub AreTablesOf : Turns → OrderTables → Type 0
AreTablesOf turns tables = (row : Row) (before : List Step) → AreRead row turns → MayRun row → IsNamedRow row before → AreKept row before tables

-- the tables and the counts are those of these turns
pub record IsReached (turns : Turns) (tables : OrderTables) (counts : TakenCounts) : Type 0 where
  pub steps : AreTablesOf turns tables
  pub numbers : (v : ℕ) → taken_count counts v ≡ turns_counted v turns
