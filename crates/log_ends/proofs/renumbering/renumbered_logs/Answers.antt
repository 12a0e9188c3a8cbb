use Rattle.std.proofs.Common.{◌+◌, List, sym, subst}
use Rattle.vat_log.specs.Log.{Log}
use Rattle.log_ends.specs.Numbers.{AreMade}
use Rattle.log_ends.proofs.NewNumbers.{made_more}
use Rattle.log_ends.proofs.renumbering.renumbered_logs.Goals as goal

pub loop-place-preserved : goal.loop-place-preserved
loop-place-preserved c =
    subst (λ (made : List Log). AreMade c.args.logs.now c.args.pairs.now (c.loop-place.place + 1) made) (sym c.in_ok-push.ensures.items)
    (made_more c.args.logs.now c.args.pairs.now c.loop-place.place c.loop-place.made.items c.in_ok-renumbered_at.field-0 c.loop-place.invariant c.in_ok-renumbered_at.ensures)
