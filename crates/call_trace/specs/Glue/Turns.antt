-- For the code's contracts, and no part of the meaning: a turn of an order, and what is kept of each vat after it.
use Rattle.std.specs.Prelude.{◌≡◌, ◌==◌, ◌∷◌, ℕ, List, false, Some, length, map, IsTrue, IsSome}
use Rattle.std.specs.List.{AllZip, list_all}
use Rattle.agree.specs.Rows.{Row, log_of_vat}
use Rattle.call_trace.specs.Findings.{AreTrue, is_good, logs_of}
use Rattle.call_trace.specs.Running.{steps_by, steps_of_row}
use Rattle.call_trace.specs.Taking.{finding_of, taken_by}
use Rattle.call_trace.specs.Glue.RunBuilder.{IsKeptAt, IsTrail}
use Rattle.call_trace.specs.Types.{Step}
use Rattle.call_trace.specs.declared.records.vat_ledger.VatLedger.{VatLedger}
use Rattle.call_trace.specs.declared.steps.run_builder.RunBuilder.{RunBuilder}
use Rattle.call_trace.specs.declared.steps.turns.TracedTurns.{TracedTurns}
use Rattle.merge_order.specs.Fits.{IsRising}
use Rattle.vat_rules.specs.Audit.{Found}

-- what is kept of a vat is that of its records of a row, step for record
abbrev pub IsKeptOf : ℕ → Row → List Step → VatLedger → Type 0
IsKeptOf v row before ledger = IsKeptAt v row before ledger × (length (steps_by v before) ≡ length (log_of_vat v row))

-- a vat's turn comes after these, whose records took these steps: this is its finding, and this is kept of it
pub record IsTurnOf (findings : List Found) (turns : List ℕ) (v : ℕ) (before : List Step) (finding : Found) (builder : RunBuilder) (ledger : VatLedger) : Type 0 where
  pub found : finding_of v findings ≡ Some finding
  pub so_far : steps_of_row (taken_by findings turns) ≡ Some before
  pub trail : IsTrail before builder
  pub kept : IsKeptOf v (taken_by findings turns) before ledger

-- it comes after such turns, and its record has a step
pub record HasTurn (finding : Found) (builder : RunBuilder) (ledger : VatLedger) : Type 0 where
  pub findings : List Found
  pub turns : List ℕ
  pub vat : ℕ
  pub before : List Step
  pub turn : IsTurnOf findings turns vat before finding builder ledger
  pub goes_on : IsSome (steps_of_row (taken_by findings (vat ∷ turns)))

-- a vat's turn was taken: its record took its step; what is kept of the others stays theirs
abbrev pub TakesTurn : ℕ → Row → Row → List Step → RunBuilder → VatLedger → Type 0
TakesTurn v row longer before trail ledger =
    (more : List Step) × (steps_of_row longer ≡ Some more) × IsTrail more trail × IsKeptOf v longer more ledger
    × ((w : ℕ) (other : VatLedger) → (v == w) ≡ false → IsKeptOf w row before other → IsKeptOf w longer more other)

-- the vats of which this is kept
abbrev pub vats_of_ledgers : List VatLedger → List ℕ
vats_of_ledgers ledgers = map (λ ledger. ledger.vat) ledgers

-- of the vat of each finding this is kept, in the order of the findings
abbrev pub AreKept : Row → List Step → List Found → List VatLedger → Type 0
AreKept row before findings ledgers = AllZip (λ finding ledger. IsKeptOf finding.log.vat row before ledger) findings ledgers

-- turns may be taken: the findings are true and good, they come by rising vat numbers, and what is kept of their vats stands
-- in their order
pub record MayTurn (findings : List Found) (ledgers : List VatLedger) : Type 0 where
  pub outcomes : AreTrue findings
  pub good : IsTrue (list_all (λ finding. is_good finding.outcome) findings)
  pub rising : IsRising (logs_of findings)
  pub vats : vats_of_ledgers ledgers ≡ map (λ log. log.vat) (logs_of findings)

-- these turns were taken, the newest first: each record that they take took its step
pub record IsReached (findings : List Found) (turns : List ℕ) (state : TracedTurns) : Type 0 where
  pub before : List Step
  pub steps : steps_of_row (taken_by findings turns) ≡ Some before
  pub trail : IsTrail before state.trail
  pub kept : AreKept (taken_by findings turns) before findings state.ledgers.items

-- turns were taken by which this is reached, and after them the record of this vat's turn has a step
pub record GoesOnWith (findings : List Found) (v : ℕ) (state : TracedTurns) : Type 0 where
  pub turns : List ℕ
  pub reached : IsReached findings turns state
  pub goes_on : IsSome (steps_of_row (taken_by findings (v ∷ turns)))
