use Rattle.std.proofs.Common.{◌≡◌, take}
use Rattle.vat_rules.specs.Audit.{edition_of}
use Rattle.picture.specs.Places.{is_given_back}
use Rattle.picture.proofs.passing.late.is_released.Given as goal

-- what stands behind says nothing of the question
abbrev pub invariant-loop-at : goal.invariant-loop-at
invariant-loop-at l =
    is_given_back (edition_of l.log) l.question.asks l.question.connection l.question.number (take l.number l.log.records)
    ≡ is_given_back (edition_of l.log) l.question.asks l.question.connection l.question.number (take l.at l.log.records)

abbrev pub decreases-loop-at : goal.decreases-loop-at
decreases-loop-at l = l.at
