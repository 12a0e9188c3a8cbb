-- What a run that is named from findings has.
use Rattle.std.specs.Prelude.{ℕ, List, map, length, take, IsTrue, Contains, count_by, ◌≡◌, ◌==◌}
use Rattle.std.specs.List.{list_any, AllByRecursion}
use Rattle.call_trace.specs.Balance.{IsBalanced}
use Rattle.call_trace.specs.Findings.{AreEnds, logs_of}
use Rattle.call_trace.specs.InLife.{UsesLives}
use Rattle.call_trace.specs.Part.{IsPart}
use Rattle.call_trace.specs.Types.{Step}
use Rattle.run_model.specs.Legal.{IsLegalRun}
use Rattle.run_model.specs.Links.{IsLinkedRun}
use Rattle.run_model.specs.Right.{ReachesObject, IsConnected}
use Rattle.run_model.specs.Steps.{vat_of, EachOf}
use Rattle.vat_rules.specs.Audit.{Found, reads_within}
use Rattle.vat_rules.specs.Events.{past_at}
use Rattle.decoded_records.specs.Past.{Past, Each}

-- the records of a finding's log before number i, with their messages read, the newest first
abbrev pub past_before : Found → ℕ → Past
past_before finding i = past_at (reads_within finding.limits) finding.log.records i

-- all of them
abbrev pub past_of : Found → Past
past_of finding = past_before finding (length finding.log.records)

-- those that the first i steps of an order take
abbrev pub taken_before : List ℕ → ℕ → Found → Past
taken_before order i finding = past_before finding (count_by (λ v. v == finding.log.vat) (take i order))

-- the logs are their vats' parts of a run, in which no other vat has a step
pub record AreParts (run : List Step) (findings : List Found) : Type 0 where
  pub parts : AllByRecursion (λ finding. IsPart run finding.log.vat (past_of finding)) findings
  pub no_others : AllByRecursion (λ s. IsTrue (list_any (λ finding. finding.log.vat == vat_of s) findings)) run

-- so of the two ends of each connection, at each point of an order
abbrev pub AtEachPoint : List Found → List ℕ → (ℕ → Past → Past → Type 0) → Type 0
AtEachPoint findings order P = (i k : ℕ) (one other : Found) → Contains findings one → Contains findings other → AreEnds (logs_of findings) k one.log other.log →
    P k (taken_before order i one) (taken_before order i other)

-- Balance at each point of an order, of each number of each connection, either end as its exporter
abbrev pub AreBalanced : List Found → List ℕ → Type 0
AreBalanced findings order = AtEachPoint findings order (λ k exporter importer. (n : ℕ) → IsBalanced k n exporter importer)

-- the run of good logs by an order: the logs are its parts, it is a run of the machine over links, each call reached the
-- object that it was to go to, each cap that a vat uses is one that it has, each number was used in its life, and the
-- counts of both ends balance
pub record IsRunOf (findings : List Found) (order : List ℕ) (run : List Step) : Type 0 where
  pub by_order : map vat_of run ≡ order
  pub parts : AreParts run findings
  pub legal : IsLegalRun run
  pub linked : IsLinkedRun run
  pub reached : EachOf ReachesObject run
  pub connected : IsConnected run
  pub lives : AllByRecursion (λ finding. Each UsesLives (past_of finding)) findings
  pub balanced : AreBalanced findings order
