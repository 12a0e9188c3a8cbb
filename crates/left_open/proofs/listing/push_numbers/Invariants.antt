use Rattle.std.proofs.Common.{◌≡◌, ◌++◌, drop}
use Rattle.left_open.specs.Glue.{begun_in, numbers_from}
use Rattle.left_open.proofs.listing.push_numbers.Given as goal

abbrev pub invariant-loop-place : goal.invariant-loop-place
invariant-loop-place l = l.list.items ++ numbers_from (begun_in l.lives) l.state l.at l.event l.place (drop l.place l.descriptors)
    ≡ l.initial.list.items ++ numbers_from (begun_in l.lives) l.state l.at l.event 0 l.descriptors
