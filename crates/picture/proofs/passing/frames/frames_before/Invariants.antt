use Rattle.std.proofs.Common.{◌≡◌, ◌≤◌, take}
use Rattle.std.specs.Prelude.{count_by}
use Rattle.vat_log.specs.Passages.{passes}
use Rattle.picture.proofs.passing.frames.frames_before.Given as goal

abbrev pub invariant-loop-at : goal.invariant-loop-at
invariant-loop-at l = (l.frames ≡ count_by (passes l.sent l.connection) (take l.at l.log.records)) × (l.frames ≤ l.at)
