use Rattle.std.proofs.Common.{◌-◌, refl, sym, length}
use Rattle.decoded_records.specs.Past.{names}
use Rattle.left_open.specs.Glue.{begun_in}
use Rattle.left_open.proofs.Stepping.{lives_back}
use Rattle.left_open.proofs.watching.note_each.Goals as goal

pub loop-back-preserved : goal.loop-back-preserved
loop-back-preserved c = λ i.
    lives_back c.args.at i c.args.state.now c.args.event.now c.args.descriptors.now c.loop-back.back (length c.args.descriptors.now - 1 - c.loop-back.back) c.index-descriptors-place.result
    (names i c.number_begun-number.result) (begun_in c.begin.new.self i) (begun_in c.loop-back.lives i) (begun_in c.args.lives.now i) c.loop-back-test.true refl
    (sym c.index-descriptors-place.is) (c.number_begun-number.ensures i) (c.in_ok-begin.ensures i) (c.loop-back.invariant i)
