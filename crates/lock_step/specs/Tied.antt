-- For the code's contracts, and no part of the meaning: what a case keeps, all of the same turns.
use Rattle.std.specs.Prelude.{◌≡◌, ◌+◌, Bool, true, false, Option, Some, None, length, if◌then◌else◌}
use Rattle.vat_log.specs.Passages.{sends, receives}
use Rattle.vat_log.specs.declared.body.Body.{Body}
use Rattle.turn_taking.specs.Turns.{Turns}
use Rattle.lock_step.specs.declared.case_counts.CaseCounts.{CaseCounts}
use Rattle.lock_step.specs.Links.{LinkTurns}
use Rattle.lock_step.specs.Taking.{Taken, count_turns, passes_delivery}

-- what was taken, unless memory was refused
abbrev pub taken_unless : Bool → Bool → Turns → LinkTurns → Option Taken
taken_unless true is_stuck in_order states = None
taken_unless false is_stuck in_order states = Some (record { links = states.links; in_order = in_order; all = states.turns; is_stuck = is_stuck })

-- all records are counted
pub record AreCounted (turns : Turns) (counts : CaseCounts) : Type 0 where
  pub records_are : counts.records ≡ length turns
  pub delivered_are : counts.delivered ≡ count_turns passes_delivery turns
  pub sent_are : counts.sent ≡ count_turns sends turns
  pub received_are : counts.received ≡ count_turns receives turns

-- a record more is counted
pub record IsCounted (event : Body) (old new : CaseCounts) : Type 0 where
  pub records_are : new.records ≡ old.records + 1
  pub delivered_are : new.delivered ≡ old.delivered + (if passes_delivery event then 1 else 0)
  pub sent_are : new.sent ≡ old.sent + (if sends event then 1 else 0)
  pub received_are : new.received ≡ old.received + (if receives event then 1 else 0)

-- the order of calls is that of the turns that were taken in order, and all records are counted
pub record AreTied (in_order : Turns) (calls : Option Turns) (states : LinkTurns) (counts : CaseCounts) : Type 0 where
  pub calls_are : calls ≡ Some in_order
  pub counts_are : AreCounted states.turns counts
