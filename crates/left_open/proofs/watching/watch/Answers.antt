use Rattle.std.proofs.Common.{◌≡◌, ◌∙◌, sym, ap, Some}
use Rattle.std.specs.Prelude.{slice_get}
use Rattle.std.proofs.lemmas.Option.{slice_get-get_or}
use Rattle.vat_view.specs.Sound.{IsSound}
use Rattle.left_open.specs.Types.{DecodedRecord}
use Rattle.left_open.proofs.Points.{kept_at, refused}
use Rattle.left_open.proofs.watching.watch.Goals as goal

pub returns-then-not-branch : goal.returns-then-not-branch
returns-then-not-branch c = λ all.
    let e : DecodedRecord = c.index-records-at.result in
    let there : slice_get c.args.records.now c.loop-at.at ≡ Some e = slice_get-get_or c.args.records.now c.loop-at.at e c.loop-at-test.true ∙ ap (λ x. Some x) (sym c.index-records-at.is) in
    refused c.in_ok-is_sound.field-0 c.if-not-branch.true c.in_ok-is_sound.ensures (rw c.loop-at.invariant.past (kept_at IsSound c.args.records.now c.loop-at.at e there all))
