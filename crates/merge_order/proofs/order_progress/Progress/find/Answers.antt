use Rattle.merge_order.proofs.Places.{found_part}
use Rattle.merge_order.proofs.order_progress.Progress.find.Goals as goal

pub returns : goal.returns
returns c =
    found_part c.args.vat c.self.inside.cursors.items c.args.self.now c.in_ok-at.at c.index.result.now c.self.view_is c.self.invariant.rising c.in_ok-at.ensures c.index.ensures
