-- The report of a case and an order of its records, or of a case alone: the first line that applies. Vats are tried by their
-- numbers, then links by theirs, then the order, then the order of calls in the run.
use Rattle.std.specs.Prelude.{◌≡◌, ℕ, ◌-◌, ◌<◌, ⊤, Bool, true, false, List, [], length, Contains, IsTrue, count_by, sum_by, Option, Some, None, slice_get}
use Rattle.cap_reader.specs.Defaults.{default_limits}
use Rattle.vat_log.specs.Log.{Log}
use Rattle.vat_log.specs.Passages.{sends, receives}
use Rattle.vat_log.specs.declared.body.Body.{Body}
use Rattle.vat_log.specs.declared.body.Body.TheVariants as body
use Rattle.vat_rules.specs.Audit.{Found, IsTrueOf, reads_by, edition_of}
use Rattle.vat_rules.specs.First.{AllGood}
use Rattle.vat_rules.specs.declared.outcome.Outcome.{Outcome}
use Rattle.vat_rules.specs.declared.outcome.Outcome.TheVariants.{Broken, Outside}
use Rattle.link_check.specs.Prefix.{Ends, IsPrefix, IsOutcome, frames_sent, frames_received}
use Rattle.link_check.specs.declared.link_outcome.LinkOutcome.TheVariants.{Broken as BrokenAt}
use Rattle.merge_order.specs.Fits.{IsFitting, TakesLeast, finding_of_order}
use Rattle.merge_order.specs.declared.order_check.OrderFinding.TheVariants.{Fails}
use Rattle.run_model.specs.declared.step.Step.{Step}
use Rattle.run_model.specs.Early.{IsOrderFault}
use Rattle.call_trace.specs.Findings.{is_good}
use Rattle.case_book.specs.Books.{AllFound, AreAll}
use Rattle.case_book.specs.Case.{Contents}
use Rattle.case_book.specs.Pieces.{IsComparisonOf}
use Rattle.case_book.specs.declared.link.Link.{Link}
use Rattle.audit_core.specs.Headline.{Explains, IsHeadline}
use Rattle.case_report.specs.declared.report.Breach.TheVariants.{Rule, Order}
use Rattle.case_report.specs.declared.report.Report.{Report}
use Rattle.case_report.specs.declared.report.Report.TheVariants as report

-- every record of a log is good by the log's edition, within the default limits
abbrev pub IsGoodLog : Log → Type 0
IsGoodLog log = AllGood (edition_of log) (reads_by (edition_of log) default_limits) log.records (length log.records)

-- the log of this vat isn't good, all of smaller numbers are, and its audit finds this
pub record IsFirstBad (logs : List Log) (vat : ℕ) (outcome : Outcome) : Type 0 where
  pub log : Log
  pub there : Contains logs log
  pub own : log.vat ≡ vat
  pub found : IsTrueOf log default_limits outcome
  pub smaller : (other : Log) → Contains logs other → other.vat < vat → IsGoodLog other

-- each of two ends received a prefix of what the other sent
pub record AreGoodEnds (ends : Ends) : Type 0 where
  pub at_first : IsPrefix (frames_received ends.connection ends.first) (frames_sent ends.connection ends.second)
  pub at_second : IsPrefix (frames_received ends.connection ends.second) (frames_sent ends.connection ends.first)

-- the two ends of a link are so
pub record IsGoodLink (logs : List Log) (link : Link) : Type 0 where
  pub ends : Ends
  pub own : IsComparisonOf logs link ends
  pub good : AreGoodEnds ends

-- the link of this connection isn't good, all of smaller connections are, and the comparison of its ends finds this message
pub record IsFirstBroken (held : Contents) (connection end message : ℕ) : Type 0 where
  pub link : Link
  pub there : Contains held.links link
  pub number : link.connection ≡ connection
  pub ends : Ends
  pub own : IsComparisonOf held.logs link ends
  pub found : IsOutcome ends (BrokenAt end message)
  pub smaller : (other : Link) → Contains held.links other → other.connection < connection → IsGoodLink held.logs other

-- all logs are good
abbrev pub AreGoodLogs : Contents → Type 0
AreGoodLogs held = (log : Log) → Contains held.logs log → IsGoodLog log

-- so are all links
abbrev pub AreGoodLinks : Contents → Type 0
AreGoodLinks held = (link : Link) → Contains held.links link → IsGoodLink held.logs link

-- all logs and links are good
pub record IsGoodCase (held : Contents) : Type 0 where
  pub logs_good : AreGoodLogs held
  pub links_good : AreGoodLinks held

-- the order by which a case is judged: the one that is given, or else the one that takes the smallest vat number that may
-- come at each step
abbrev pub IsOrderFor : List Log → Option (List ℕ) → List ℕ → Type 0
IsOrderFor logs (Some given) order = order ≡ given
IsOrderFor logs None order = TakesLeast logs order

-- a record delivers a call
abbrev pub records_delivery : Body → Bool
records_delivery (body.Deliver call object) = true
records_delivery _ = false

-- how many records of all logs pass a test
abbrev pub count_all : (Body → Bool) → List Log → ℕ
count_all test logs = sum_by (λ log. count_by test log.records) logs

-- how many there are
abbrev pub records_in : List Log → ℕ
records_in logs = sum_by (λ log. length log.records) logs

-- a run of the case by the order that it is judged by, with the least step that delivers a call too early
pub record IsEarlyAt (logs : List Log) (given : Option (List ℕ)) (vat at : ℕ) : Type 0 where
  pub order : List ℕ
  pub by : IsOrderFor logs given order
  pub fits : IsFitting logs order
  pub run : List Step
  pub explained : Explains logs order run
  pub early : IsOrderFault run (Some (vat, at))

-- the run of the case by that order, with all that a yes means, and the counts
pub record IsYes (logs : List Log) (given : Option (List ℕ)) (vats records delivered under_way : ℕ) (run : List Step) : Type 0 where
  pub order : List ℕ
  pub by : IsOrderFor logs given order
  pub fits : IsFitting logs order
  pub headline : IsHeadline logs order run
  pub vats_are : vats ≡ length logs
  pub records_are : records ≡ records_in logs
  pub delivered_are : delivered ≡ count_all records_delivery logs
  pub under_way_are : under_way ≡ count_all sends logs - count_all receives logs

-- the order that was given fails at this step
abbrev pub FailsAt : List Log → Option (List ℕ) → ℕ → Type 0
FailsAt logs (Some order) step = finding_of_order logs order ≡ Fails step
FailsAt logs None step = ⊥

-- none was given, and none fits
abbrev pub HasNoOrder : List Log → Option (List ℕ) → Type 0
HasNoOrder logs (Some order) = ⊥
HasNoOrder logs None = (order : List ℕ) → ¬ IsFitting logs order

-- the report of a case, and of an order or none
abbrev pub IsReport : Contents → Option (List ℕ) → Report → Type 0
IsReport held given (report.Vat vat at (Rule rule)) = IsFirstBad held.logs vat (Broken at rule)
IsReport held given (report.OutsideVat vat at why) = IsFirstBad held.logs vat (Outside at why)
IsReport held given (report.Link connection end message) = AreGoodLogs held × IsFirstBroken held connection end message
IsReport held given (report.OrderStep step) = IsGoodCase held × FailsAt held.logs given step
IsReport held given report.NoOrder = IsGoodCase held × HasNoOrder held.logs given
IsReport held given (report.Vat vat at Order) = IsGoodCase held × IsEarlyAt held.logs given vat at
IsReport held given (report.Yes vats records delivered under_way run) = IsGoodCase held × IsYes held.logs given vats records delivered under_way run

-- the line of a report: all of it but the run
abbrev pub line_in : Report → Report
line_in (report.Yes vats records delivered under_way run) = report.Yes vats records delivered under_way []
line_in other = other

-- an order that is given fits
abbrev pub IsFittingIfGiven : List Log → Option (List ℕ) → Type 0
IsFittingIfGiven logs (Some order) = IsFitting logs order
IsFittingIfGiven logs None = ⊤

-- each of a list is so
abbrev pub HoldsOfEach : {X : Type 0} → (X → Type 0) → List X → Type 0
HoldsOfEach {X = X} P xs = (k : ℕ) (x : X) → slice_get xs k ≡ Some x → P x

-- a finding says that every record is good, and it is so
pub record IsGoodFinding (found : Found) : Type 0 where
  pub says : IsTrue (is_good found.outcome)
  pub means : AllGood (edition_of found.log) (reads_by (edition_of found.log) found.limits) found.log.records (length found.log.records)

-- the findings of a case are good
pub record AreGoodFindings (all : AllFound) : Type 0 where
  pub whole : AreAll all
  pub vats_good : HoldsOfEach IsGoodFinding all.vats
  pub links_good : HoldsOfEach AreGoodEnds all.links
