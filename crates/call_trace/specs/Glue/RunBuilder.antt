-- For the code's contracts, and no part of the meaning: the steps that a row of records took so far, what they sent, and
-- what is kept of each vat by then.
use Rattle.std.specs.Prelude.{◌≡◌, ◌∷◌, ℕ, List, Some, IsSome, reverse}
use Rattle.agree.specs.Rows.{Row, log_of_vat}
use Rattle.call_trace.specs.Glue.Ledgers.{IsKept}
use Rattle.call_trace.specs.Glue.Channels.{AreLines}
use Rattle.call_trace.specs.Running.{steps_by, steps_of_row}
use Rattle.call_trace.specs.Types.{DecodedRecord, Step}
use Rattle.call_trace.specs.declared.records.vat_ledger.VatLedger.{VatLedger}
use Rattle.call_trace.specs.declared.steps.run_builder.RunBuilder.{RunBuilder}
use Rattle.run_model.specs.Steps.{vat_of}
use Rattle.vat_rules.specs.LogFacts.{Facts}
use Rattle.vat_rules.specs.Telling.{facts_of}

-- what is kept of a vat is that of its records of a row, and of their steps
abbrev pub IsKeptAt : ℕ → Row → List Step → VatLedger → Type 0
IsKeptAt v row before ledger = IsKept v (log_of_vat v row) (steps_by v before) (reverse before) ledger

-- a trail is that of these steps, the newest first
pub record IsTrail (before : List Step) (trail : RunBuilder) : Type 0 where
  pub steps : trail.steps.items ≡ reverse before
  pub lines : AreLines before trail.lines

-- a record of a vat comes after those of a row, which took these steps, and these are its facts
pub record IsNextIn (v : ℕ) (row : Row) (before : List Step) (e : DecodedRecord) (facts : Facts) (builder : RunBuilder) (ledger : VatLedger) : Type 0 where
  pub so_far : steps_of_row row ≡ Some before
  pub trail : IsTrail before builder
  pub kept : IsKeptAt v row before ledger
  pub known : facts ≡ facts_of (log_of_vat v row) e

-- it comes after such a row, and has a step
pub record ComesNext (e : DecodedRecord) (facts : Facts) (builder : RunBuilder) (ledger : VatLedger) : Type 0 where
  pub vat : ℕ
  pub row : Row
  pub before : List Step
  pub next : IsNextIn vat row before e facts builder ledger
  pub goes_on : IsSome (steps_of_row ((vat, e) ∷ row))

-- a record of a vat came after those of a row, and took its step
abbrev pub Comes : ℕ → DecodedRecord → Row → List Step → RunBuilder → VatLedger → Type 0
Comes v e row before new ledger =
    (s : Step) × (steps_of_row ((v, e) ∷ row) ≡ Some (s ∷ before)) × (vat_of s ≡ v) × IsTrail (s ∷ before) new × IsKeptAt v ((v, e) ∷ row) (s ∷ before) ledger
