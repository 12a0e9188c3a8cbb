-- What a yes means: the logs of a case are the vats' parts of one run of the level 1 machine over first-in first-out links;
-- each delivered call reached the object that it was to go to, calls through one reference were delivered as ordered, no
-- number was used outside its life, and each capability that a vat uses is one that it has.
use Rattle.std.specs.Prelude.{◌≡◌, ℕ, ◌==◌, ⊤, List, IsTrue, Contains, length, map, take, count_by}
use Rattle.std.specs.List.{list_any, AllByRecursion}
use Rattle.cap_reader.specs.Defaults.{default_limits}
use Rattle.vat_log.specs.Log.{Log}
use Rattle.decoded_records.specs.Past.{Past, Each}
use Rattle.vat_rules.specs.Audit.{reads_within}
use Rattle.vat_rules.specs.Events.{past_at}
use Rattle.merge_order.specs.Fits.{IsFitting}
use Rattle.run_model.specs.declared.step.Step.{Step}
use Rattle.run_model.specs.Steps.{vat_of, EachOf}
use Rattle.run_model.specs.Legal.{IsLegalRun}
use Rattle.run_model.specs.Links.{IsLinkedRun}
use Rattle.run_model.specs.Right.{ReachesObject, IsOrdered, IsConnected}
use Rattle.call_trace.specs.Balance.{IsBalanced}
use Rattle.call_trace.specs.Findings.{AreEnds}
use Rattle.call_trace.specs.InLife.{UsesLives}
use Rattle.call_trace.specs.Part.{IsPart}
use Rattle.case_report.specs.declared.report.Report.{Report}
use Rattle.case_report.specs.declared.report.Report.TheVariants as report

-- the records of a log before number i, with their messages read within the default limits, the newest first
abbrev pub records_before : Log → ℕ → Past
records_before log i = past_at (reads_within default_limits) log.records i

-- all of them
abbrev pub records_of : Log → Past
records_of log = records_before log (length log.records)

-- those that the first i steps of an order take
abbrev pub taken_of : List ℕ → ℕ → Log → Past
taken_of order i log = records_before log (count_by (λ v. v == log.vat) (take i order))

-- at each point of the order, an exporter holds of each number what its importer holds and what is under way between them
abbrev pub IsBalancedThroughout : List Log → List ℕ → Type 0
IsBalancedThroughout logs order = (i k : ℕ) (one other : Log) → Contains logs one → Contains logs other → AreEnds logs k one other →
    (n : ℕ) → IsBalanced k n (taken_of order i one) (taken_of order i other)

-- a run explains the logs, by an order of their records
pub record Explains (logs : List Log) (order : List ℕ) (run : List Step) : Type 0 where
  -- the order names, step by step, whose step of the run it is
  pub by_order : map vat_of run ≡ order
  -- the logs are the vats' parts of the run: record by record each says its step
  pub parts : (log : Log) → Contains logs log → IsPart run log.vat (records_of log)
  -- no vat without a log has a step
  pub no_others : AllByRecursion (λ s. IsTrue (list_any (λ log. log.vat == vat_of s) logs)) run
  -- each step is legal for the level 1 machine
  pub legal : IsLegalRun run
  -- on each connection and in each direction the n-th message received is the n-th that was sent
  pub linked : IsLinkedRun run
  -- each call that is delivered was made once, is delivered once, and reaches the object that it was to go to
  pub reached : EachOf ReachesObject run
  -- each number is used in its life
  pub lives : (log : Log) → Contains logs log → Each UsesLives (records_of log)
  -- each capability that a vat uses is one that it has: its own, a field of a call that it made, booted or received, or one
  -- that it bound with a recorded message
  pub connected : IsConnected run
  -- the counts of both ends balance, at each point of the order
  pub balanced : IsBalancedThroughout logs order

-- what a yes means
pub record IsHeadline (logs : List Log) (order : List ℕ) (run : List Step) : Type 0 where
  pub explained : Explains logs order run
  -- of two calls made through one reference the first is delivered first, where both are
  pub ordered : IsOrdered run

-- where a report says yes, its run has all that a yes means, by an order that fits the logs
abbrev pub YesMeansHeadline : List Log → Report → Type 0
YesMeansHeadline logs (report.Yes vats records delivered under_way run) = (order : List ℕ) × IsFitting logs order × IsHeadline logs order run
YesMeansHeadline logs _ = ⊤
