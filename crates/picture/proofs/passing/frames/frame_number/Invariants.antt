use Rattle.std.proofs.Common.{◌≡◌, drop}
use Rattle.std.specs.Prelude.{slice_get}
use Rattle.picture.specs.Places.{positions_from}
use Rattle.vat_log.specs.Passages.{passes}
use Rattle.picture.proofs.passing.frames.frame_number.Given as goal

abbrev pub invariant-loop-at : goal.invariant-loop-at
invariant-loop-at l = slice_get (positions_from (passes l.sent l.connection) 0 l.log.records) l.frame ≡ slice_get (positions_from (passes l.sent l.connection) l.at (drop l.at l.log.records)) l.left
