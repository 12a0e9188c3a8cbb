use Rattle.std.proofs.Common.{◌≡◌, ◌≤◌, ◌+◌, drop}
use Rattle.picture.specs.Rows.{breaks_from}
use Rattle.picture.proofs.breaks.breaks_of.Given as goal

abbrev pub invariant-loop-letter : goal.invariant-loop-letter
invariant-loop-letter l =
    (l.breaks + breaks_from l.at (drop l.letter-index l.text) ≡ breaks_from 0 l.text) × (l.breaks ≤ l.letter-index) × (l.at ≤ l.letter-index)
