use Rattle.picture.proofs.Listing.{replicated}
use Rattle.picture.proofs.order.arranging.with_steps.Goals as goal

pub loop-preserved : goal.loop-preserved
loop-preserved c = replicated c.args.vat c.args.order.items c.loop.counter c.loop.order.items _ c.loop.invariant c.in_ok-push.ensures.items
