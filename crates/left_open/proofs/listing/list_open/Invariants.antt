use Rattle.std.proofs.Common.{◌≡◌, ◌++◌, drop}
use Rattle.left_open.specs.Glue.{begun_in, opened_from}
use Rattle.left_open.proofs.listing.list_open.Given as goal

abbrev pub invariant-loop-at : goal.invariant-loop-at
invariant-loop-at l =
    l.list.items ++ opened_from (begun_in l.watched.questions) (begun_in l.watched.unfinished) (begun_in l.watched.loopbacks) (begun_in l.watched.lives) l.state l.at (drop l.at l.records)
    ≡ opened_from (begun_in l.watched.questions) (begun_in l.watched.unfinished) (begun_in l.watched.loopbacks) (begun_in l.watched.lives) l.state 0 l.records
