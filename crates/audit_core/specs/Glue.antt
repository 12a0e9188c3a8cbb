-- For the code's contracts, and no part of the meaning: what is so of findings that stand at places of a list.
use Rattle.std.specs.Prelude.{◌≡◌, ℕ, ◌+◌, ◌-◌, ◌*◌, ◌<◌, List, Option, Some, None, length, count_by, slice_get}
use Rattle.vat_rules.specs.Audit.{Found, IsTrueOf}
use Rattle.vat_rules.specs.declared.outcome.Outcome.{Outcome}
use Rattle.vat_rules.specs.declared.outcome.Outcome.TheVariants.{Good, Broken, Outside}
use Rattle.link_check.specs.Prefix.{Ends, IsOutcome, frames_sent, frames_received}
use Rattle.link_check.specs.declared.link_outcome.LinkOutcome.TheVariants.{Broken as BrokenAt}
use Rattle.case_book.specs.Case.{vat_limit}
use Rattle.audit_core.specs.Report.{records_delivery}
use Rattle.case_report.specs.declared.report.Breach.TheVariants.{Rule}
use Rattle.case_report.specs.declared.report.Report.{Report}
use Rattle.case_report.specs.declared.report.Report.TheVariants as report

-- how many records all logs of a case may have: each has 4,294,967,295 at most
abbrev pub case_record_limit : ℕ
case_record_limit = vat_limit * 4294967295

-- each of the first n of a list is so
abbrev pub HoldsBefore : {X : Type 0} → (X → Type 0) → List X → ℕ → Type 0
HoldsBefore {X = X} P xs n = (k : ℕ) (x : X) → k < n → slice_get xs k ≡ Some x → P x

-- the first of a list that isn't so
pub record IsFirstNot {X : Type 0} (P Q : X → Type 0) (xs : List X) : Type 0 where
  pub place : ℕ
  pub one : X
  pub there : slice_get xs place ≡ Some one
  pub before : HoldsBefore P xs place
  pub so : Q one

-- the line of a log that isn't good
abbrev pub line_of : ℕ → Outcome → Option Report
line_of vat (Good story) = None
line_of vat (Broken at rule) = Some (report.Vat vat at (Rule rule))
line_of vat (Outside at why) = Some (report.OutsideVat vat at why)

-- a finding is of a log that isn't good, and this is its line
pub record IsBadFinding (answer : Report) (found : Found) : Type 0 where
  pub line : line_of found.log.vat found.outcome ≡ Some answer
  pub means : IsTrueOf found.log found.limits found.outcome

-- an end received what the other didn't send so, and this is the line
pub record AreBadEnds (answer : Report) (ends : Ends) : Type 0 where
  pub end : ℕ
  pub message : ℕ
  pub line : answer ≡ report.Link ends.connection end message
  pub means : IsOutcome ends (BrokenAt end message)

-- how many frames the two ends of a link sent
abbrev pub sent_on : Ends → ℕ
sent_on ends = length (frames_sent ends.connection ends.first) + length (frames_sent ends.connection ends.second)

-- how many they received
abbrev pub received_on : Ends → ℕ
received_on ends = length (frames_received ends.connection ends.first) + length (frames_received ends.connection ends.second)

-- how many were sent there and not received
abbrev pub under_way_on : Ends → ℕ
under_way_on ends = sent_on ends - received_on ends

-- how many records of a log deliver a call
abbrev pub delivered_by : Found → ℕ
delivered_by found = count_by records_delivery found.log.records
