use Rattle.std.proofs.Common.{◌≡◌, ◌-◌, drop, length}
use Rattle.std.specs.Option.{option_or}
use Rattle.left_open.specs.Types.{TableKey}
use Rattle.left_open.specs.Glue.{begun_in, begins_from}
use Rattle.left_open.proofs.watching.note_each.Given as goal

abbrev pub invariant-loop-back : goal.invariant-loop-back
invariant-loop-back l = (i : TableKey) → begun_in l.lives i
    ≡ option_or (begins_from l.at i l.state l.event (length l.descriptors - l.back) (drop (length l.descriptors - l.back) l.descriptors)) (begun_in l.initial.lives i)
