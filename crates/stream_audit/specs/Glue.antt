-- For the code's contracts, and no part of the meaning: lanes as they were read, and what is found of their logs.
use Rattle.std.specs.Prelude.{◌≡◌, ◌≤◌, ◌-◌, ℕ, true, false, List, [], IfSome, length, map, Option, Some, None, slice_get}
use Rattle.std.specs.Option.{option_map}
use Rattle.cap_reader.specs.Defaults.{default_limits}
use Rattle.vat_rules.specs.Audit.{Found}
use Rattle.link_check.specs.declared.link_outcome.LinkOutcome.TheVariants.{Good, Broken as BrokenAt}
use Rattle.merge_order.specs.declared.order_check.OrderFinding.TheVariants as findings
use Rattle.case_book.specs.declared.link.Link.{Link}
use Rattle.turn_taking.specs.Lanes.{LaneSoFar}
use Rattle.turn_taking.specs.Pass.{logs_of}
use Rattle.turn_taking.specs.Turned.{Taken}
use Rattle.turn_taking.specs.WholeCase.{AreTaken, AreTakenBy}
use Rattle.vat_log.specs.Passages.{sends, receives}
use Rattle.case_book.specs.Case.{Contents}
use Rattle.lock_step.specs.Taking as taking
use Rattle.lock_step.specs.Taking.{count_turns}
use Rattle.lock_step.specs.Links.{IsFoundOf}
use Rattle.log_lane.specs.Lanes.{ReadAhead, as_lane}
use Rattle.log_lane.specs.Slim as slim
use Rattle.turn_taking.specs.Turns.{Turns}
use Rattle.audit_core.specs.Glue.{case_record_limit}
use Rattle.audit_core.specs.Report.{HoldsOfEach}
use Rattle.case_report.specs.declared.report.Report.{Report}
use Rattle.case_report.specs.declared.report.Report.TheVariants as report
use Rattle.stream_audit.specs.Streamed.{AreReadWhole}
use Rattle.stream_audit.specs.declared.reading_in_turns.OrderFound.{OrderFound}
use Rattle.stream_audit.specs.declared.reading_in_turns.OrderFound.TheVariants.{Fits, Fails, NoOrder}

-- lanes, as a case has them
abbrev pub so_far : List (Option ReadAhead) → List (Option LaneSoFar)
so_far lanes = map (option_map as_lane) lanes

-- no two logs are of one vat
abbrev pub AreApart : List (Option ReadAhead) → Type 0
AreApart lanes = (i j : ℕ) (one other : ReadAhead) → slice_get lanes i ≡ Some (Some one) → slice_get lanes j ≡ Some (Some other) → one.read.log.vat ≡ other.read.log.vat → i ≡ j

-- the records were taken, by the order that is given, if one is
abbrev pub IsTakenSo : List (Option LaneSoFar) → Taken → Option (List ℕ) → OrderFound → Type 0
IsTakenSo lanes taken None Fits = AreTaken lanes taken true
IsTakenSo lanes taken None NoOrder = AreTaken lanes taken false
IsTakenSo lanes taken None (Fails step) = ⊥
IsTakenSo lanes taken (Some order) Fits = AreTakenBy lanes taken order findings.Fits
IsTakenSo lanes taken (Some order) (Fails step) = AreTakenBy lanes taken order (findings.Fails step)
IsTakenSo lanes taken (Some order) NoOrder = ⊥

-- what was found of the logs that came whole, within the default limits
pub record AreFoundIn (lanes : List (Option ReadAhead)) (findings : List Found) : Type 0 where
  pub whole : AreReadWhole lanes (slim.logs_audited findings)
  pub within : HoldsOfEach (λ found. found.limits ≡ default_limits) findings
  pub same : slim.logs_audited findings ≡ logs_of (so_far lanes)

-- a link is good by these turns, and broken, with its line
abbrev pub IsGoodLinkBy : Turns → Link → Type 0
IsGoodLinkBy turns link = (delivered : ℕ) × (in_flight : ℕ) × IsFoundOf link turns (Good delivered in_flight)

pub record IsBrokenBy (turns : Turns) (answer : Report) (link : Link) : Type 0 where
  pub end : ℕ
  pub message : ℕ
  pub line : answer ≡ report.Link link.connection end message
  pub found : IsFoundOf link turns (BrokenAt end message)

-- a yes has the counts of all turns
pub record IsYesOf (held : Contents) (taken : taking.Taken) (answer : Report) : Type 0 where
  pub records : ℕ
  pub delivered : ℕ
  pub under_way : ℕ
  pub line : answer ≡ report.Yes (length held.logs) records delivered under_way []
  pub records_are : records ≡ length taken.all
  pub few : records ≤ case_record_limit
  pub delivered_are : delivered ≡ count_turns taking.passes_delivery taken.all
  pub under_way_are : under_way ≡ count_turns sends taken.all - count_turns receives taken.all

abbrev pub IsYesBy : Contents → Option taking.Taken → Report → Type 0
IsYesBy held turns answer = IfSome turns (λ taken. IsYesOf held taken answer)
